use Rattle.std.proofs.Common.{◌++◌, ◌∷◌, [], List, ap, sym, ◌∙◌, subst}
use mathlib.Core.List.{IsPrefix}
use Rattle.comm_versions.specs.declared.version.Version.{Version}
use Rattle.comm_versions.specs.Known.{Known}
use Rattle.comm_versions.proofs.Fronts.{prefix_self}
use Rattle.comm_versions.proofs.opening.warm.Goals as goal

pub show-requires : goal.show-requires
show-requires g c =
    let shown = ap (λ d. d.shown.value.front) c.in-Ok.ensures.desk ∙ c.requires.shown in
    let front = c.new-version.ensures.front ∙ c.copy.ensures ∙ sym shown in
    record {
      op = c.new-version.result;
      alone = c.in-Ok.ensures.pending ∙ ap (λ (l : List Version). l ++ c.new-version.result ∷ []) c.requires.waits;
      origin = ap (λ (k : Known). k.origin) front;
      later = subst (λ (k : Known). IsPrefix k.entries c.new-version.result.front.entries) front (prefix_self c.new-version.result.front.entries);
    }
