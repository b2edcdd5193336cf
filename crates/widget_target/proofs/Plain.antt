-- What a message tells of a state has no bytes in it, and a state without bytes is told as it is.
use Rattle.std.proofs.Common.{◌≡◌, ℕ, suc, Bool, true, false, ◌||◌, [], refl, ap, true≢false}
use Rattle.comm_value.specs.Tree.{Tree, null, boolean, whole, decimal, text, bytes, list, dict, Items, no_items, item, Members, no_members, member}
use Rattle.comm_value.specs.Places.{has_bytes, items_have_bytes, members_have_bytes, plain, plain_items, plain_members, paths, item_paths, member_paths, buffers, item_buffers, member_buffers}

mutual
  pub plain_items_free : (ts : Items) → items_have_bytes (plain_items ts) ≡ false
  plain_items_free no_items = refl
  plain_items_free (item null ts) = plain_items_free ts
  plain_items_free (item (boolean b) ts) = plain_items_free ts
  plain_items_free (item (whole z) ts) = plain_items_free ts
  plain_items_free (item (decimal s) ts) = plain_items_free ts
  plain_items_free (item (text s) ts) = plain_items_free ts
  plain_items_free (item (bytes b) ts) = plain_items_free ts
  plain_items_free (item (list is) ts) = rw (plain_items_free is) (plain_items_free ts)
  plain_items_free (item (dict ms) ts) = rw (plain_members_free ms) (plain_items_free ts)

  pub plain_members_free : (ms : Members) → members_have_bytes (plain_members ms) ≡ false
  plain_members_free no_members = refl
  plain_members_free (member k null ms) = plain_members_free ms
  plain_members_free (member k (boolean b) ms) = plain_members_free ms
  plain_members_free (member k (whole z) ms) = plain_members_free ms
  plain_members_free (member k (decimal s) ms) = plain_members_free ms
  plain_members_free (member k (text s) ms) = plain_members_free ms
  plain_members_free (member k (bytes b) ms) = plain_members_free ms
  plain_members_free (member k (list is) ms) = rw (plain_items_free is) (plain_members_free ms)
  plain_members_free (member k (dict us) ms) = rw (plain_members_free us) (plain_members_free ms)

-- a state without bytes is told as it is
neither : (a b : Bool) → (a || b) ≡ false → (a ≡ false) × (b ≡ false)
neither false b h = (refl, h)
neither true b h = absurd (true≢false h)

mutual
  plain_same : (t : Tree) → has_bytes t ≡ false → plain t ≡ t
  plain_same null h = refl
  plain_same (boolean b) h = refl
  plain_same (whole z) h = refl
  plain_same (decimal s) h = refl
  plain_same (text s) h = refl
  plain_same (bytes b) h = refl
  plain_same (list ts) h = ap list (items_same ts h)
  plain_same (dict ms) h = ap dict (members_same ms h)

  items_same : (ts : Items) → items_have_bytes ts ≡ false → plain_items ts ≡ ts
  items_same no_items h = refl
  items_same (item (bytes b) ts) h = absurd (true≢false h)
  items_same (item null ts) h = ap (item null) (items_same ts h)
  items_same (item (boolean b) ts) h = ap (item (boolean b)) (items_same ts h)
  items_same (item (whole z) ts) h = ap (item (whole z)) (items_same ts h)
  items_same (item (decimal s) ts) h = ap (item (decimal s)) (items_same ts h)
  items_same (item (text s) ts) h = ap (item (text s)) (items_same ts h)
  items_same (item (list is) ts) h = let p = neither (items_have_bytes is) (items_have_bytes ts) h in rw (items_same is p.0, items_same ts p.1) refl
  items_same (item (dict ms) ts) h = let p = neither (members_have_bytes ms) (items_have_bytes ts) h in rw (members_same ms p.0, items_same ts p.1) refl

  pub members_same : (ms : Members) → members_have_bytes ms ≡ false → plain_members ms ≡ ms
  members_same no_members h = refl
  members_same (member k (bytes b) ms) h = absurd (true≢false h)
  members_same (member k null ms) h = ap (member k null) (members_same ms h)
  members_same (member k (boolean b) ms) h = ap (member k (boolean b)) (members_same ms h)
  members_same (member k (whole z) ms) h = ap (member k (whole z)) (members_same ms h)
  members_same (member k (decimal s) ms) h = ap (member k (decimal s)) (members_same ms h)
  members_same (member k (text s) ms) h = ap (member k (text s)) (members_same ms h)
  members_same (member k (list is) ms) h = let p = neither (items_have_bytes is) (members_have_bytes ms) h in rw (items_same is p.0, members_same ms p.1) refl
  members_same (member k (dict us) ms) h = let p = neither (members_have_bytes us) (members_have_bytes ms) h in rw (members_same us p.0, members_same ms p.1) refl

mutual
  paths_none : (t : Tree) → has_bytes t ≡ false → paths t ≡ []
  paths_none null h = refl
  paths_none (boolean b) h = refl
  paths_none (whole z) h = refl
  paths_none (decimal s) h = refl
  paths_none (text s) h = refl
  paths_none (bytes b) h = absurd (true≢false h)
  paths_none (list ts) h = item_paths_none 0 ts h
  paths_none (dict ms) h = member_paths_none ms h

  item_paths_none : (n : ℕ) (ts : Items) → items_have_bytes ts ≡ false → item_paths n ts ≡ []
  item_paths_none n no_items h = refl
  item_paths_none n (item t ts) h =
      let p = neither (has_bytes t) (items_have_bytes ts) h in
      rw (paths_none t p.0, item_paths_none (suc n) ts p.1) refl

  pub member_paths_none : (ms : Members) → members_have_bytes ms ≡ false → member_paths ms ≡ []
  member_paths_none no_members h = refl
  member_paths_none (member k t ms) h =
      let p = neither (has_bytes t) (members_have_bytes ms) h in
      rw (paths_none t p.0, member_paths_none ms p.1) refl

mutual
  buffers_none : (t : Tree) → has_bytes t ≡ false → buffers t ≡ []
  buffers_none null h = refl
  buffers_none (boolean b) h = refl
  buffers_none (whole z) h = refl
  buffers_none (decimal s) h = refl
  buffers_none (text s) h = refl
  buffers_none (bytes b) h = absurd (true≢false h)
  buffers_none (list ts) h = item_buffers_none ts h
  buffers_none (dict ms) h = member_buffers_none ms h

  item_buffers_none : (ts : Items) → items_have_bytes ts ≡ false → item_buffers ts ≡ []
  item_buffers_none no_items h = refl
  item_buffers_none (item t ts) h =
      let p = neither (has_bytes t) (items_have_bytes ts) h in
      rw (buffers_none t p.0, item_buffers_none ts p.1) refl

  pub member_buffers_none : (ms : Members) → members_have_bytes ms ≡ false → member_buffers ms ≡ []
  member_buffers_none no_members h = refl
  member_buffers_none (member k t ms) h =
      let p = neither (has_bytes t) (members_have_bytes ms) h in
      rw (buffers_none t p.0, member_buffers_none ms p.1) refl
