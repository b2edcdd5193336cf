use Rattle.std.proofs.Common.{◌≡◌, Some, Ok, subst, codes, rules}
use Rattle.std.specs.Prelude.{IfSome}
use Rattle.comm_json.specs.Behind.{get_member}
use Rattle.comm_messages.specs.Envelope.{of_line}
use Rattle.comm_messages.specs.Message.{type_of}
use Rattle.comm_reader.specs.Reader.{HasContent, HasObject, HasRest, IsVersion, version_told}
use Rattle.comm_reader.proofs.MessageTests.{message_is}
use Rattle.comm_reader.proofs.line.message_of.Goals as goal

pub returns-clause-message : goal.returns-clause-message
returns-clause-message c absent clients numbers ms has =
    let there : c.args.line.type_ ≡ Some c.in_ok-type_.type_ = search rules in
    let header : type_of (get_member (codes "header") ms) ≡ Ok c.in_ok-type_.type_ = subst (λ o. IfSome o (λ t. type_of (get_member (codes "header") ms) ≡ Ok t)) there has.header in
    let held : c.args.line.content ≡ Some c.in_ok-content.content = search rules in
    let content : HasObject (get_member (codes "content") ms) (HasContent numbers c.in_ok-content.content) = subst (λ o. IfSome o (λ x. HasObject (get_member (codes "content") ms) (HasContent numbers x))) held has.content in
    let version : c.version_in-version.result ≡ version_told c.args.line.metadata = search rules in
    let rest : HasRest (of_line ms) c.version_in-version.result c.args.line.buffers = (rw version has.metadata, has.buffers) in
    (has.no_other, message_is clients numbers (of_line ms) content.0 c.args.line.client c.in_ok-type_.type_ c.in_ok-incoming.incoming has.client header content.1 (c.in_ok-incoming.ensures numbers (of_line ms) content.0 content.2 rest))
