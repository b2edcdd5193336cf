use Rattle.std.proofs.Common.{◌≡◌, ℕ, List, [], ◌∷◌, ◌++◌, map, Option, refl, ap, subst, ◌∙◌}
use Rattle.std.specs.Prelude.{Result, ⊤, OnOk, IfSome}
use Rattle.std.specs.Io.KnownBytes.{Appends}
use Rattle.comm_targets.specs.Meaning.{Meaning}
use Rattle.comm_targets.specs.declared.kind.Kind.{Kind}
use Rattle.comm_targets.specs.declared.kind.Kind.TheVariants.{Echo, Counter, Widget, WidgetEcho}
use Rattle.comm_core.specs.Machine.{Registered}
use Rattle.comm_core.specs.Tables.{registered_of}
use Rattle.comm_script.specs.Stock.{shelved}
use Rattle.comm_value.specs.declared.from_json.Numbers.TheVariants.{Whole}
use Rattle.comm_script.specs.Played.{played}
use Rattle.comm_script.specs.declared.fault.RunFault.{RunFault}
use Rattle.comm_driver.specs.Program.{program_limits, program_stock, new_target}
use Rattle.comm_driver.proofs.play.OwnLists as own
use denote.Param.Object.{read_made}
use Rattle.comm_driver.proofs.play.Goals as goal

none_yet : {T : Type 0} (means : T → Meaning) (stock : List T) → stock ≡ [] → shelved (map means stock) ≡ []
none_yet means stock is = ap (λ l. shelved (map means l)) is

-- the meanings of a stock with one target more
shelved_more : {T : Type 0} (means : T → Meaning) (stock : List T) (t : T) → shelved (map means (stock ++ t ∷ [])) ≡ shelved (map means stock) ++ registered_of (means t) ∷ []
shelved_more means [] t = refl
shelved_more means (u ∷ stock) t = ap (λ rest. registered_of (means u) ∷ rest) (shelved_more means stock t)

one_more : {T : Type 0} (means : T → Meaning) (old new : List T) (t : T) (before : List Registered) (kind : Kind) → new ≡ old ++ t ∷ [] → registered_of (means t) ≡ new_target kind → shelved (map means old) ≡ before
    → shelved (map means new) ≡ before ++ new_target kind ∷ []
one_more means old new t before kind grown is held =
    ap (λ l. shelved (map means l)) grown ∙ shelved_more means old t ∙ ap (λ l. l ++ registered_of (means t) ∷ []) held ∙ ap (λ r. before ++ r ∷ []) is

with_stock : (r : Result ⊤ RunFault) (left before now : Option (List ℕ)) (stock : List Registered) → stock ≡ program_stock
    → OnOk r (IfSome left (λ input. Appends before now (played Whole program_limits stock input))) → OnOk r (IfSome left (λ input. Appends before now (played Whole program_limits program_stock input)))
with_stock r left before now stock is h = subst (λ (s : List Registered). OnOk r (IfSome left (λ input. Appends before now (played Whole program_limits s input)))) is h

-- what a box tells of itself is what its target tells
pub returns-in-OneThread-clause-one_thread : goal.returns-in-OneThread-clause-one_thread
returns-in-OneThread-clause-one_thread g c =
    λ one. with_stock c.run_with.result (g.R.Read.remaining c.args.reader.now) (g.W.Write.contents c.args.writer.now) _ _
    (one_more _ _ _ _ _ WidgetEcho c.in_ok-push_target-8.ensures.added
    (read_made own.own-1 _ own.at-1-3 refl Registered (λ j v. registered_of (j.1.means v)) c.into_dyn_box-in_ok-new-8.result.vtable c.into_dyn_box-in_ok-new-8.result.value _ c.into_dyn_box-in_ok-new-8.ensures.1
    ∙ rw c.in_ok-new-8.ensures.ok (ap registered_of c.with_echo-2.ensures))
    (one_more _ _ _ _ _ WidgetEcho c.in_ok-push_target-7.ensures.added
    (read_made own.own-1 _ own.at-1-3 refl Registered (λ j v. registered_of (j.1.means v)) c.into_dyn_box-in_ok-new-7.result.vtable c.into_dyn_box-in_ok-new-7.result.value _ c.into_dyn_box-in_ok-new-7.ensures.1
    ∙ rw c.in_ok-new-7.ensures.ok (ap registered_of c.with_echo.ensures))
    (one_more _ _ _ _ _ Widget c.in_ok-push_target-6.ensures.added
    (read_made own.own-1 _ own.at-1-3 refl Registered (λ j v. registered_of (j.1.means v)) c.into_dyn_box-in_ok-new-6.result.vtable c.into_dyn_box-in_ok-new-6.result.value _ c.into_dyn_box-in_ok-new-6.ensures.1
    ∙ rw c.in_ok-new-6.ensures.ok (ap registered_of c.new-11.ensures))
    (one_more _ _ _ _ _ Widget c.in_ok-push_target-5.ensures.added
    (read_made own.own-1 _ own.at-1-3 refl Registered (λ j v. registered_of (j.1.means v)) c.into_dyn_box-in_ok-new-5.result.vtable c.into_dyn_box-in_ok-new-5.result.value _ c.into_dyn_box-in_ok-new-5.ensures.1
    ∙ rw c.in_ok-new-5.ensures.ok (ap registered_of c.new-9.ensures))
    (one_more _ _ _ _ _ Counter c.in_ok-push_target-4.ensures.added
    (read_made own.own-1 _ own.at-1-2 refl Registered (λ j v. registered_of (j.1.means v)) c.into_dyn_box-in_ok-new-4.result.vtable c.into_dyn_box-in_ok-new-4.result.value _ c.into_dyn_box-in_ok-new-4.ensures.1
    ∙ rw c.in_ok-new-4.ensures.ok (ap registered_of c.new-7.ensures))
    (one_more _ _ _ _ _ Counter c.in_ok-push_target-3.ensures.added
    (read_made own.own-1 _ own.at-1-2 refl Registered (λ j v. registered_of (j.1.means v)) c.into_dyn_box-in_ok-new-3.result.vtable c.into_dyn_box-in_ok-new-3.result.value _ c.into_dyn_box-in_ok-new-3.ensures.1
    ∙ rw c.in_ok-new-3.ensures.ok (ap registered_of c.new-5.ensures))
    (one_more _ _ _ _ _ Echo c.in_ok-push_target-2.ensures.added
    (read_made own.own-1 _ own.at-1-1 refl Registered (λ j v. registered_of (j.1.means v)) c.into_dyn_box-in_ok-new-2.result.vtable c.into_dyn_box-in_ok-new-2.result.value _ c.into_dyn_box-in_ok-new-2.ensures.1)
    (one_more _ _ _ _ _ Echo c.in_ok-push_target.ensures.added
    (read_made own.own-1 _ own.at-1-1 refl Registered (λ j v. registered_of (j.1.means v)) c.into_dyn_box.result.vtable c.into_dyn_box.result.value _ c.into_dyn_box.ensures.1)
    (none_yet _ _ c.new-stock.ensures.items))))))))) c.run_with.ensures.played
