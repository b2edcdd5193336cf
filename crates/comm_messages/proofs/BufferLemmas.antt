-- Buffers that are decoded one after the other.
use Rattle.std.proofs.Common.{◌≡◌, ℕ, zero, suc, Bool, true, false, List, [], ◌∷◌, ◌++◌, length, Some, None, Ok, Err, refl, sym, ap, ◌∙◌, arith, append-nil, append_assoc, length-append}
use Rattle.json.specs.Json.{Json, Items, no_items, item}
use Rattle.json.specs.Find.{get_item}
use Rattle.comm_value.specs.Gives.{◌>>=◌, or_fault, Fails}
use Rattle.comm_messages.specs.Gives.{Reading, is_memory}
use Rattle.comm_messages.specs.Buffers.{buffer_of, buffers_from}
use Rattle.comm_messages.specs.declared.fault.MessageFault.{MessageFault}
use Rattle.comm_messages.specs.declared.fault.MessageFault.TheVariants.{BadBuffer}

some_same : {A : Type 0} {x y : A} → Some x ≡ Some y → x ≡ y
some_same h = cc

-- the buffers decoded so far, before the rest
abbrev pub after : List (List ℕ) → Reading (List (List ℕ)) → Reading (List (List ℕ))
after bs rest = rest >>= (λ cs. Ok (bs ++ cs))

pub after-nil : (r : Reading (List (List ℕ))) → r ≡ after [] r
after-nil (Ok bs) = refl
after-nil (Err e) = refl

after-cons : (all : List (List ℕ)) (b : List ℕ) (r : Reading (List (List ℕ))) → after all (r >>= (λ bs. Ok (b ∷ bs))) ≡ after (all ++ b ∷ []) r
after-cons all b (Ok bs) = ap Ok (sym (append_assoc all (b ∷ []) bs))
after-cons all b (Err e) = refl

-- the items from number n on
abbrev pub left : ℕ → Items → Items
left zero ds = ds
left (suc n) no_items = no_items
left (suc n) (item d ds) = left n ds

left_item : (ds : Items) (n : ℕ) (d : Json) → get_item n ds ≡ Some d → left n ds ≡ item d (left (suc n) ds)
left_item no_items zero d at = absurd (cc)
left_item no_items (suc n) d at = absurd (cc)
left_item (item e ds) zero d at = ap (λ x. item x ds) (some_same at)
left_item (item e ds) (suc n) d at = left_item ds n d at

left_none : (ds : Items) (n : ℕ) → get_item n ds ≡ None → left n ds ≡ no_items
left_none no_items zero at = refl
left_none no_items (suc n) at = refl
left_none (item e ds) zero at = absurd (cc)
left_none (item e ds) (suc n) at = left_none ds n at

-- what is left from number n on
abbrev pub rest : Items → ℕ → Reading (List (List ℕ))
rest ds n = buffers_from n (left n ds)

pub one_more : (ds : Items) (d : Json) (all new : List (List ℕ)) (b : List ℕ) (whole : Reading (List (List ℕ)))
    → get_item (length all) ds ≡ Some d → or_fault (BadBuffer (length all)) (buffer_of d) ≡ Ok b → new ≡ all ++ b ∷ []
    → whole ≡ after all (rest ds (length all)) → whole ≡ after new (rest ds (length new))
one_more ds d all new b whole at is more before =
    let n = length all in
    let next : suc n ≡ length new = omega (arith, ap length more, length-append all (b ∷ [])) in
    before
    ∙ ap (λ is. after all (buffers_from n is)) (left_item ds n d at)
    ∙ ap (λ r. after all (r >>= (λ c. rest ds (suc n) >>= (λ bs. Ok (c ∷ bs))))) is
    ∙ after-cons all b (rest ds (suc n))
    ∙ ap (λ l. after l (rest ds (suc n))) (sym more) ∙ ap (λ m. after new (rest ds m)) next

pub one_fails : (ds : Items) (d : Json) (all : List (List ℕ)) (e : MessageFault) (whole : Reading (List (List ℕ)))
    → get_item (length all) ds ≡ Some d → or_fault (BadBuffer (length all)) (buffer_of d) ≡ Err e → whole ≡ after all (rest ds (length all)) → whole ≡ Err e
one_fails ds d all e whole at is before =
    let n = length all in
    before
    ∙ ap (λ is. after all (buffers_from n is)) (left_item ds n d at)
    ∙ ap (λ r. after all (r >>= (λ c. rest ds (suc n) >>= (λ bs. Ok (c ∷ bs))))) is

pub none_left : (ds : Items) (all : List (List ℕ)) (whole : Reading (List (List ℕ))) → get_item (length all) ds ≡ None → whole ≡ after all (rest ds (length all)) → whole ≡ Ok all
none_left ds all whole at before = before ∙ ap (λ is. after all (buffers_from (length all) is)) (left_none ds (length all) at) ∙ ap Ok (append-nil all)

-- a part fails, and so does the whole
fails_by : {A B : Type 0} (memory : Bool) (e : MessageFault) (part : Reading A) (whole : Reading B) → (part ≡ Err e → whole ≡ Err e) → Fails memory e part → Fails memory e whole
fails_by true e part whole h f = tt
fails_by false e part whole h f = h f

pub fails_too : {A B : Type 0} (e : MessageFault) (part : Reading A) (whole : Reading B) → (part ≡ Err e → whole ≡ Err e) → Fails (is_memory e) e part → Fails (is_memory e) e whole
fails_too e part whole h f = fails_by (is_memory e) e part whole h f
