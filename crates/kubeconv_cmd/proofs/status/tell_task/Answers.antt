use Rattle.kubeconv_cmd.proofs.status.tell_task.Goals as goal

pub returns-in-Err-Input-clause-status : goal.returns-in-Err-Input-clause-status
returns-in-Err-Input-clause-status g c = rw c.in-Err-Input.is (rw c.in-Err-Input.field-0-is c.bad_input.ensures.status)

pub returns-in-Err-Input-clause-line : goal.returns-in-Err-Input-clause-line
returns-in-Err-Input-clause-line g c = rw c.in-Err-Input.is (rw c.in-Err-Input.field-0-is (rw c.as_str.ensures at c.bad_input.ensures.line))
