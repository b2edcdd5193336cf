-- The targets that the library has.
use Rattle.comm_targets.specs.Meaning.{Meaning}
use Rattle.comm_targets.specs.declared.kind.Kind.{Kind}
use Rattle.comm_targets.specs.declared.kind.Kind.TheVariants as kind
use Rattle.comm_targets.specs.contracts.counter.CounterTarget.TheImpl as counter
use Rattle.comm_targets.specs.contracts.echo.EchoTarget.TheImpl as echo
use Rattle.comm_targets.specs.contracts.plain.PlainTargetTarget.TheImpl as plain
use Rattle.widget_target.specs.contracts.widget.WidgetTargetTarget.TheImpl as widget
use Rattle.comm_c.specs.declared.builtin_target.BuiltinKind.{BuiltinKind}
use Rattle.comm_c.specs.declared.builtin_target.BuiltinKind.TheVariants as builtin
use Rattle.comm_c.specs.declared.builtin_target.BuiltinTarget.{BuiltinTarget}
use Rattle.comm_c.specs.declared.builtin_target.BuiltinTarget.TheVariants.{Echo, Counter, Widget, Plain}

-- the kind that a built-in one is of
abbrev pub kind_of : BuiltinKind → Kind
kind_of builtin.Echo = kind.Echo
kind_of builtin.Counter = kind.Counter
kind_of builtin.Widget = kind.Widget
kind_of builtin.WidgetEcho = kind.WidgetEcho
kind_of builtin.Plain = kind.Plain
kind_of builtin.Opaque = kind.Opaque

-- a built-in target means what the target in it means
abbrev pub means_of : BuiltinTarget → Meaning
means_of (Echo e) = echo.ghosts.means e
means_of (Counter c) = counter.ghosts.means c
means_of (Widget w) = widget.ghosts.means w
means_of (Plain p) = plain.ghosts.means p
