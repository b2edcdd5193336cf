-- The open comms that a reply lists ('Messaging in Jupyter' 5.3, "Comm info").
use Rattle.std.specs.Prelude.{List, map}
use Rattle.std.specs.List.Sorted.{IsStrictlySortedBy}
use Rattle.comm_value.specs.Order.{key_cmp}
use Rattle.comm_messages.specs.declared.infos.Info.{Info}

-- their ids stand in byte order, each once
abbrev pub IdsAreInOrder : List Info → Type 0
IdsAreInOrder infos = IsStrictlySortedBy key_cmp (map (λ info. info.id) infos)
