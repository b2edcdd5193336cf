-- Values without decimals: each number of theirs is an integer.
use Rattle.std.specs.Prelude.{⊤}
use Rattle.comm_value.specs.Tree.{Tree, decimal, list, dict, Items, no_items, item, Members, no_members, member}

abbrev mutual
  pub HasNoDecimal : Tree → Type 0
  HasNoDecimal (decimal s) = ⊥
  HasNoDecimal (list ts) = ItemsHaveNoDecimal ts
  HasNoDecimal (dict ms) = MembersHaveNoDecimal ms
  HasNoDecimal t = ⊤

  pub ItemsHaveNoDecimal : Items → Type 0
  ItemsHaveNoDecimal no_items = ⊤
  ItemsHaveNoDecimal (item t ts) = HasNoDecimal t × ItemsHaveNoDecimal ts

  pub MembersHaveNoDecimal : Members → Type 0
  MembersHaveNoDecimal no_members = ⊤
  MembersHaveNoDecimal (member k t ms) = HasNoDecimal t × MembersHaveNoDecimal ms
