use Rattle.std.proofs.Common.{◌≡◌, ◌+◌, ◌≤◌, ℕ, zero, suc, [], ◌∷◌, ◌++◌, length, refl, ap, ◌∙◌, subst, arith}
use Rattle.std.proofs.lemmas.List.{length-append}
use Rattle.comm_core.specs.Limits.{AreAllowed}
use Rattle.comm_versions.specs.ClientView.{all_new, client_view}
use Rattle.shared_script.proofs.running.run_named.Goals as goal

so_many : (n : ℕ) → length (all_new n) ≡ n
so_many zero = refl
so_many (suc n) =
    let more : length (all_new n ++ client_view n 0 [] ∷ []) ≡ length (all_new n) + 1 = length-append (all_new n) (client_view n 0 [] ∷ []) in
    let fewer : length (all_new n) ≡ n = so_many n in
    omega (arith, more, fewer)

pub play_over-played-requires-clause-clients : goal.play_over-played-requires-clause-clients
play_over-played-requires-clause-clients g c κs live =
    let all : length c.in-Ok.clients.items ≡ g.M.History.limits.clients = ap length c.in-Ok.ensures.clients ∙ so_many _ in
    let long : c.in-Ok.clients.len ≡ length c.in-Ok.clients.items = c.in-Ok.clients.ok.0 in
    let allowed : AreAllowed g.M.History.limits = subst AreAllowed c.requires.named.limits_are c.requires.allowed in
    let some : 1 ≤ g.M.History.limits.clients = allowed.0 in
    let few : g.M.History.limits.clients ≤ 4 = allowed.1 in
    (omega (arith, all, long, some), omega (arith, all, long, few))
