use Rattle.std.proofs.Common.{◌++◌, ◌∷◌, [], List, ap, sym, ◌∙◌}
use Rattle.std.specs.Arc.{arc_value}
use Rattle.comm_versions.specs.declared.version.Version.{Version}
use Rattle.comm_versions.specs.Known.{Known}
use Rattle.comm_versions.proofs.adding.add.Goals as goal

pub show-requires : goal.show-requires
show-requires g c =
    let shown = ap (λ (v : Version). v.front) c.enqueue.ensures.shown ∙ c.requires.shown in
    let version = c.version.ensures in
    let front = ap (λ (k : Known). k.entries) version ∙ (c.extend.ensures ∙ sym (ap (λ (k : Known). k.entries ++ arc_value c.args.pending_entry.entry ∷ []) shown)) in
    record {
      op = c.version.result;
      alone = c.enqueue.ensures.pending ∙ ap (λ (l : List Version). l ++ c.version.result ∷ []) c.requires.pending;
      origin = ap (λ (k : Known). k.origin) version ∙ sym (ap (λ (k : Known). k.origin) shown);
      later = (arc_value c.args.pending_entry.entry ∷ [], sym front);
    }
