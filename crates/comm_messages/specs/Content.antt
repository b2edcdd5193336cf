-- The payload of a message: its data and its binary buffers ('Messaging in Jupyter' 5.3, "Custom Messages" and the wire
-- protocol's "buffers").
use Rattle.std.specs.Prelude.{ℕ, List, refl}
use Rattle.std.specs.Coded.{Coded, code_by, coded×, coded_ℕ, coded_list}
use Rattle.comm_value.specs.Tree.{Members}
use Rattle.comm_value.specs.Code.{members_code}

pub record Content : Type 0 where
  pub content : Members
  pub buffers : List (List ℕ)

abbrev pub content_code : Coded Content
content_code =
    code_by (Members × List (List ℕ)) (coded× members_code (coded_list (coded_list coded_ℕ)))
    (λ c. (c.content, c.buffers)) (λ p. record { content = p.0; buffers = p.1 }) (λ _. refl)
