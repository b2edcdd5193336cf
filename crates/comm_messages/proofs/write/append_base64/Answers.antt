use Rattle.std.proofs.Common.{◌≡◌, ◌+◌, ◌-◌, ◌++◌, ℕ, List, length, take, drop, replicate, sym, ap, ◌∙◌, arith, rules}
use Rattle.std.proofs.lemmas.List.{take_all, drop_all, append-nil, length-append, length-replicate, length-drop, length-take-le}
use Rattle.base64.specs.GeneralPurpose.{encode_of, encoded_size_of}
use Rattle.base64.specs.Engines.{standard}
use Rattle.comm_messages.proofs.Base64Text.{kept, encoded_past, in_quotes}
use Rattle.comm_messages.proofs.write.append_base64.Goals as goal

pub returns : goal.returns
returns c =
    let bytes : List ℕ = c.args.bytes.now in
    let front : List ℕ = c.append.new.out.items in
    let items : List ℕ = c.resize.new.self.items in
    let shown : List ℕ = c.as_mut_slice.result.now in
    let ys : List ℕ = c.encode_slice.new.output in
    let start : ℕ = c.len-start.result in
    let len : ℕ = c.in-Some.len in
    let end : ℕ = c.in-Some-checked_add.end in
    let fill : List ℕ = replicate len 0 in
    let filled : length fill ≡ len = length-replicate {A = ℕ} len 0 in
    let size : len ≡ encoded_size_of standard (length bytes) = search rules in
    let at : start ≡ length front = omega (arith, c.len-start.ensures) in
    let sum : end ≡ start + len = c.in-Some-checked_add.ensures.1 in
    let more : end - c.append.new.out.len ≡ len = omega (arith, c.len-start.ensures) in
    let is : items ≡ front ++ fill = c.in_ok-resize.ensures.items ∙ (λ j. take_all end front (omega arith) j ++ replicate (more j) 0) in
    let same : shown ≡ items = c.as_mut_slice.ensures.value in
    let all : c.resize.new.self.len ≡ length items = omega arith in
    let wide : length items ≡ start + len = omega (arith, ap length is, length-append front fill, filled) in
    let room : length shown ≡ start + len = ap length same ∙ wide in
    let part : List ℕ = take (length shown - start) (drop start shown) in
    let long : length part ≡ len = length-take-le (length shown - start) (drop start shown) (omega (arith, length-drop start shown)) ∙ omega arith in
    let ok = c.encode_slice.ensures.fits (omega arith) in
    let written : ys ≡ encode_of standard bytes ++ drop (encoded_size_of standard (length bytes)) part = rw ok at c.encode_slice.ensures.written in
    let text : ys ≡ encode_of standard bytes = written ∙ ap (λ l. encode_of standard bytes ++ l) (drop_all _ part (omega arith)) ∙ append-nil _ in
    let plain = kept bytes (λ i. let fits = c.type_inv.bytes i in omega arith) in
    let put = encoded_past front fill shown items ys (encode_of standard bytes) start c.resize.new.self.len (same ∙ is) (ap length same) all at text (c.encode_slice.auto.output ∙ long ∙ sym filled) in
    in_quotes c.args.out.now.items front _ c.append-2.new.out.items (encode_of standard bytes) c.in_ok-append.ensures put plain c.in_ok-append-2.ensures
