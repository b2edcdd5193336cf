-- The status of an exported call: a number with a name. `rolgunai.h` has the same.
use Rattle.std.specs.Prelude.{ℕ, ◌==◌, Option, Some, None, if◌then◌else◌}
use Rattle.comm_targets.specs.declared.kind.Kind.{Kind}
use Rattle.comm_targets.specs.declared.kind.Kind.TheVariants.{Widget, WidgetEcho, Plain, Opaque}

-- the call was made
abbrev pub ok : ℕ
ok = 0

-- the handle has no manager
abbrev pub closed : ℕ
closed = 1

-- out of memory, and nothing has changed
abbrev pub memory : ℕ
memory = 2

-- the limit of comms is out of its bounds
abbrev pub bad_limit : ℕ
bad_limit = 3

-- the handle has a manager already
abbrev pub already_open : ℕ
already_open = 4

-- the call was made, and what is asked for is longer than the caller's buffer
abbrev pub buffer_too_small : ℕ
buffer_too_small = 5

-- as many calls were made as a manager takes
abbrev pub exhausted : ℕ
exhausted = 6

-- an id, a name or a UUID isn't UTF-8
abbrev pub bad_name : ℕ
bad_name = 7

-- no kind has the number
abbrev pub bad_kind : ℕ
bad_kind = 8

-- the sizes aren't those of the binary buffers
abbrev pub bad_sizes : ℕ
bad_sizes = 9

-- a part isn't JSON
abbrev pub not_json : ℕ
not_json = 10

-- there is no such message, or it has no such part
abbrev pub no_part : ℕ
no_part = 11

-- the line was played, and out of memory for its text
abbrev pub no_text : ℕ
no_text = 12

-- another client's call is inside, and nothing has changed
abbrev pub busy : ℕ
busy = 13

-- what is shown isn't as late as was asked for, or as what the client has seen
abbrev pub again : ℕ
again = 14

-- there are as many clients as a manager has at a time
abbrev pub no_seat : ℕ
no_seat = 15

-- the client and the manager don't fit
abbrev pub stranger : ℕ
stranger = 16

-- the kinds of targets that C registers, by their numbers
abbrev pub kind_numbered : ℕ → Option Kind
kind_numbered n =
    if n == 2 then Some Widget
    else if n == 3 then Some Plain
    else if n == 4 then Some WidgetEcho
    else if n == 5 then Some Opaque
    else None
