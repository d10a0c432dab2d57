use Rattle.drill_requests.proofs.Reading.{edited_text}
use Rattle.drill_requests.proofs.replies.edited.Goals as goal

pub returns-in_ok-edit-in-Some : goal.returns-in_ok-edit-in-Some
returns-in_ok-edit-in-Some c =
    edited_text c.args.value c.args.got.now c.in_ok-object.field-0 c.in-Some.object c.in_ok-edit-in-Some.field-0 c.write.result c.in-Some.is c.in_ok-object.ensures.value
    c.in_ok-edit-in-Some.ensures.edited c.write.ensures.text
