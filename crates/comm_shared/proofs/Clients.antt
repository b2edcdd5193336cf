-- What a change leaves of its client.
use Rattle.std.proofs.Common.{◌≡◌, ℕ, ◌+◌, ◌≤◌, List, length, refl, ap, sym, subst, ◌∙◌}
use mathlib.Core.List.{IsPrefix}
use Rattle.comm_messages.specs.declared.outgoing.Outgoing.{Outgoing}
use Rattle.comm_core.specs.History.{IsLegal, mine}
use Rattle.comm_core.specs.declared.call.Call.{Call}
use Rattle.comm_core.specs.declared.reply.Reply.{Reply}
use Rattle.comm_versions.specs.ClientView.{client_view}
use Rattle.comm_versions.specs.Known.{Known, Origin}
use Rattle.comm_versions.specs.Mine.{IsAnswered}
use Rattle.comm_versions.proofs.Made.{made_more}
use Rattle.comm_shared.specs.SharedView.{HasMade, IsMade, SharedView, limits_of, most_changes, outgoing_of}

abbrev pub view_of : Known → (seat number : ℕ) → SharedView
view_of k seat number = record { origin = k.origin; own = client_view seat number k.entries }

module _ (old : SharedView) (before after : Known) (asked : Call) (reply : Reply) (outgoing : List Outgoing) (number call : ℕ)
    (some : old.own.number ≤ length (mine old.own.seen old.own.client)) (same : before.origin ≡ old.origin)
    (stays : after.origin ≡ before.origin) (pre : IsPrefix old.own.seen before.entries)
    (counted : length (mine before.entries old.own.client) ≡ old.own.number)
    (made : IsMade before.entries after.entries old.own.client (length (mine before.entries old.own.client) + 1) asked reply outgoing)
    (legal : IsLegal after.origin.clients after.origin.limit after.entries) (few : length after.entries ≤ most_changes)
    (number_is : number ≡ length after.entries) (call_is : call ≡ length (mine before.entries old.own.client) + 1) where
  is_same : after.origin ≡ old.origin
  is_same = stays ∙ same

  now : call ≡ old.own.number + 1
  now = call_is ∙ ap (λ (n : ℕ). n + 1) counted

  made_here : IsMade before.entries after.entries old.own.client (old.own.number + 1) asked reply outgoing
  made_here = subst (λ (n : ℕ). IsMade before.entries after.entries old.own.client (n + 1) asked reply outgoing) counted made

  legal_here : IsLegal (limits_of old.origin).clients (limits_of old.origin).comms after.entries
  legal_here = subst (λ (o : Origin). IsLegal o.clients o.limit after.entries) is_same legal

  whole : (a : IsAnswered (limits_of old.origin) old.own (client_view old.own.client (old.own.number + 1) after.entries) asked number reply after.entries)
      × (a.came ≡ made_here.next.came) × (a.before ≡ before.entries) × (old.own.number + 1 ≤ length (mine after.entries old.own.client))
  whole =
      made_more (limits_of old.origin) old.own (client_view old.own.client (old.own.number + 1) after.entries) before.entries after.entries after.entries
      asked reply number some pre counted made_here.next legal_here few refl number_is refl

  -- it was answered
  pub has_made : HasMade old (view_of after old.own.client call) asked number reply outgoing before after
  has_made =
      subst (λ (n : ℕ). HasMade old (view_of after old.own.client n) asked number reply outgoing before after) (sym now)
      (record {
        answered = whole.0;
        outgoing_is = ap outgoing_of whole.1 ∙ made_here.outgoing_is;
        history_is = whole.2;
        origin_is = is_same;
        origin_stays = is_same;
      })

  -- the front has as many of its changes
  pub counted_after : call ≤ length (mine after.entries old.own.client)
  counted_after = subst (λ (n : ℕ). n ≤ length (mine after.entries old.own.client)) (sym now) whole.3

  -- the same, of a client whose parts are known by other names
  pub has_made_as : (seat : ℕ) (seen : Known) → seat ≡ old.own.client → seen ≡ after → HasMade old (view_of seen seat call) asked number reply outgoing before after
  has_made_as seat seen seat_is seen_is =
      subst (λ (x : Known × ℕ). HasMade old (view_of x.0 x.1 call) asked number reply outgoing before after) (λ i. (sym seen_is i, sym seat_is i)) has_made
