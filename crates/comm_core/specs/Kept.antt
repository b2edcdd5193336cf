-- The listing that the table of comms keeps, in the words of Reads; for proofs alone.
use Rattle.std.specs.Prelude.{◌≡◌, List, map, Option, None, Some}
use Rattle.comm_messages.specs.declared.infos.Info.{Info}
use Rattle.comm_core.specs.Machine.{Name}
use Rattle.comm_core.specs.Reads.{info_of, in_order}
use Rattle.comm_core.specs.Tables.{Opens}

-- every open comm, in the byte order of the ids
abbrev pub listing : Opens → List Info
listing comms = map info_of (in_order comms)

-- a listing that is kept is that of these comms
abbrev pub IsCurrent : Option (List Info) → Opens → Type 0
IsCurrent None comms = Unit {0}
IsCurrent (Some kept) comms = kept ≡ listing comms

-- the ids with the names of their targets
abbrev pub pairs_of : Opens → List (Name × Name)
pairs_of comms = map (λ e. (e.0, e.1.target)) comms

abbrev pub shown : Name × Name → Info
shown p = record { id = p.0; target = p.1 }
