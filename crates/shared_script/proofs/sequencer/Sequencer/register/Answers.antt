use Rattle.shared_script.proofs.Heard.{kept_later}
use Rattle.shared_script.proofs.sequencer.Sequencer.register.Goals as goal

pub returns-in-Some-clause-later : goal.returns-in-Some-clause-later
returns-in-Some-clause-later g c = λ h. kept_later c.in-Some.made (λ a. a.stamp) _ _ _ c.note.ensures.last c.in-Some.ensures.made h
