-- What a change adds to the changes that its client made.
use Rattle.std.proofs.Common.{◌≡◌, ℕ, zero, suc, ◌+◌, ◌≤◌, ◌==◌, true, cond, List, [], ◌∷◌, ◌++◌, length, take, refl, ap, sym, subst, ◌∙◌, arith, length-append}
use mathlib.Core.List.{IsPrefix}
use Rattle.std.proofs.lemmas.Bool.Decides.{nat_tests}
use Rattle.std.proofs.lemmas.List.Elements.{filter-append}
use Rattle.comm_core.specs.History.{IsLegal, is_of, mine}
use Rattle.comm_core.specs.declared.call.Call.{Call}
use Rattle.comm_core.specs.declared.entry.Entry.{Entry}
use Rattle.comm_core.specs.declared.limits.Limits.{Limits}
use Rattle.comm_core.specs.declared.reply.Reply.{Reply}
use Rattle.comm_versions.proofs.Fronts.{prefix_whole, prefix_length}
use Rattle.comm_versions.specs.Asked.{IsCall, IsNext}
use Rattle.comm_versions.specs.ClientView.{ClientView, client_view}
use Rattle.comm_versions.specs.Mine.{IsAnswered, made}

same_client : (c : ℕ) → (c == c) ≡ true
same_client c = grind (arith, nat_tests)

mine_one : (e : Entry) (c n : ℕ) (call : Call) (r : Reply) → IsCall e c n call r → mine (e ∷ []) c ≡ e ∷ []
mine_one e c n call r is =
    let own : is_of c e ≡ true = ap (is_of c) is.2 ∙ same_client c in
    ap (λ b. cond b (e ∷ []) []) own

pub mine_prefix : (c : ℕ) (a b : List Entry) → IsPrefix a b → IsPrefix (mine a c) (mine b c)
mine_prefix c a b p = (mine p.0 c, sym (filter-append (is_of c) a p.0) ∙ ap (λ l. mine l c) p.1)

pub take_whole : {A : Type 0} (n : ℕ) (xs : List A) → length xs ≤ n → take n xs ≡ xs
take_whole zero [] le = refl
take_whole (suc n) [] le = refl
take_whole zero (x ∷ xs) le = absurd (omega arith)
take_whole (suc n) (x ∷ xs) le = ap (λ l. x ∷ l) (take_whole n xs (omega arith))

take_before : {A : Type 0} (n : ℕ) (xs ys : List A) → n ≤ length xs → take n (xs ++ ys) ≡ take n xs
take_before zero xs ys le = refl
take_before (suc n) [] ys le = absurd (omega arith)
take_before (suc n) (x ∷ xs) ys le = ap (λ l. x ∷ l) (take_before n xs ys (omega arith))

pub made_more : (limits : Limits) (old new : ClientView) (before after : List Entry) (front : List Entry) (asked : Call) (reply : Reply) (n : ℕ)
    → old.number ≤ length (mine old.seen old.client) → IsPrefix old.seen before → length (mine before old.client) ≡ old.number
    → (s : IsNext before after old.client (old.number + 1) asked reply) → IsLegal limits.clients limits.comms after → length after ≤ limits.history
    → front ≡ after → n ≡ length after → new ≡ client_view old.client (old.number + 1) front
    → (a : IsAnswered limits old new asked n reply front) × (a.came ≡ s.came) × (a.before ≡ before) × (new.number ≤ length (mine new.seen new.client))
made_more limits old new before after front asked reply n some pre counted s legal few front_is n_is new_is =
    let c = old.client in
    let es = before in
    let e = s.came in
    let whole : front ≡ es ++ e ∷ [] = front_is ∙ s.history_is in
    let same : mine old.seen c ≡ mine es c = prefix_whole (mine old.seen c) (mine es c) (mine_prefix c old.seen es pre) (omega arith) in
    let past : made old ≡ mine es c = ap (take old.number) same ∙ take_whole old.number (mine es c) (omega arith) in
    let all : mine front c ≡ mine es c ++ e ∷ [] =
    ap (λ l. mine l c) whole ∙ (filter-append (is_of c) es (e ∷ []) ∙ ap (λ l. mine es c ++ l) (mine_one e c (old.number + 1) asked reply s.is_call)) in
    let long : length (mine front c) ≡ old.number + 1 = ap length all ∙ (length-append (mine es c) (e ∷ []) ∙ ap (λ n. n + 1) counted) in
    let now : made new ≡ mine front c = ap made new_is ∙ take_whole (old.number + 1) (mine front c) (omega arith) in (
      record {
        before = es;
        came = e;
        is_call = s.is_call;
        front_is = whole;
        seen = pre;
        legal = subst (λ (l : List Entry). IsLegal limits.clients limits.comms l) (sym front_is) legal;
        few = subst (λ (l : List Entry). length l ≤ limits.history) (sym front_is) few;
        number_is = n_is ∙ ap length (sym front_is);
        now = new_is;
        more = now ∙ (all ∙ ap (λ l. l ++ e ∷ []) (sym past));
        whole = sym now;
      },
      refl,
      refl,
      subst (λ (w : ClientView). w.number ≤ length (mine w.seen w.client)) (sym new_is) (omega arith),
    )

-- what a client made stays as it sees more
pub made_stays : (c n : ℕ) (seen more : List Entry) → n ≤ length (mine seen c) → IsPrefix seen more → (n ≤ length (mine more c)) × (made (client_view c n more) ≡ made (client_view c n seen))
made_stays c n seen more some pre =
    let p = mine_prefix c seen more pre in
    let le = prefix_length (mine seen c) (mine more c) p in
    (omega arith, ap (take n) (sym p.1) ∙ take_before n (mine seen c) p.0 some)
