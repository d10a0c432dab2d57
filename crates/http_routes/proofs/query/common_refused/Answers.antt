use Rattle.std.proofs.Common.{◌∙◌, sym}
use Rattle.http_routes.proofs.Values.{refused_none, refused_later, refused_here}
use Rattle.http_routes.proofs.query.common_refused.Goals as goal

pub returns-then-not-is_off : goal.returns-then-not-is_off
returns-then-not-is_off c = sym (refused_here _ _ _ (rw c.value.ensures at (sym c.is_off.ensures ∙ c.if-not-is_off.true)))

pub returns-then-not-is_off-2 : goal.returns-then-not-is_off-2
returns-then-not-is_off-2 c = sym (refused_later _ _ _ (rw c.value.ensures at (sym c.is_off.ensures ∙ c.if-not-is_off.false)) ∙ refused_here _ _ _ (rw c.value-2.ensures at (sym c.is_off-2.ensures ∙ c.if-not-is_off-2.true)))

pub returns-then-not-is_off-3 : goal.returns-then-not-is_off-3
returns-then-not-is_off-3 c = sym (refused_later _ _ _ (rw c.value.ensures at (sym c.is_off.ensures ∙ c.if-not-is_off.false)) ∙ refused_later _ _ _ (rw c.value-2.ensures at (sym c.is_off-2.ensures ∙ c.if-not-is_off-2.false)) ∙ refused_here _ _ _ (rw c.value-3.ensures at (sym c.is_off-3.ensures ∙ c.if-not-is_off-3.true)))

pub returns-then-not-is_off-4 : goal.returns-then-not-is_off-4
returns-then-not-is_off-4 c = sym (refused_later _ _ _ (rw c.value.ensures at (sym c.is_off.ensures ∙ c.if-not-is_off.false)) ∙ refused_later _ _ _ (rw c.value-2.ensures at (sym c.is_off-2.ensures ∙ c.if-not-is_off-2.false)) ∙ refused_later _ _ _ (rw c.value-3.ensures at (sym c.is_off-3.ensures ∙ c.if-not-is_off-3.false)) ∙ refused_here _ _ _ (rw c.value-4.ensures at (sym c.is_off-4.ensures ∙ c.if-not-is_off-4.true)))

pub returns-then-not-is_off-5 : goal.returns-then-not-is_off-5
returns-then-not-is_off-5 c = sym (refused_later _ _ _ (rw c.value.ensures at (sym c.is_off.ensures ∙ c.if-not-is_off.false)) ∙ refused_later _ _ _ (rw c.value-2.ensures at (sym c.is_off-2.ensures ∙ c.if-not-is_off-2.false)) ∙ refused_later _ _ _ (rw c.value-3.ensures at (sym c.is_off-3.ensures ∙ c.if-not-is_off-3.false)) ∙ refused_later _ _ _ (rw c.value-4.ensures at (sym c.is_off-4.ensures ∙ c.if-not-is_off-4.false)) ∙ refused_here _ _ _ (rw c.value-5.ensures at (sym c.is_off-5.ensures ∙ c.if-not-is_off-5.true)))

pub returns-then-not-is_any_version : goal.returns-then-not-is_any_version
returns-then-not-is_any_version c = sym (refused_later _ _ _ (rw c.value.ensures at (sym c.is_off.ensures ∙ c.if-not-is_off.false)) ∙ refused_later _ _ _ (rw c.value-2.ensures at (sym c.is_off-2.ensures ∙ c.if-not-is_off-2.false)) ∙ refused_later _ _ _ (rw c.value-3.ensures at (sym c.is_off-3.ensures ∙ c.if-not-is_off-3.false)) ∙ refused_later _ _ _ (rw c.value-4.ensures at (sym c.is_off-4.ensures ∙ c.if-not-is_off-4.false)) ∙ refused_later _ _ _ (rw c.value-5.ensures at (sym c.is_off-5.ensures ∙ c.if-not-is_off-5.false)) ∙ refused_here _ _ _ (rw c.value-6.ensures at (sym c.is_any_version.ensures ∙ c.if-not-is_any_version.true)))

pub returns : goal.returns
returns c = sym (refused_later _ _ _ (rw c.value.ensures at (sym c.is_off.ensures ∙ c.if-not-is_off.false)) ∙ refused_later _ _ _ (rw c.value-2.ensures at (sym c.is_off-2.ensures ∙ c.if-not-is_off-2.false)) ∙ refused_later _ _ _ (rw c.value-3.ensures at (sym c.is_off-3.ensures ∙ c.if-not-is_off-3.false)) ∙ refused_later _ _ _ (rw c.value-4.ensures at (sym c.is_off-4.ensures ∙ c.if-not-is_off-4.false)) ∙ refused_later _ _ _ (rw c.value-5.ensures at (sym c.is_off-5.ensures ∙ c.if-not-is_off-5.false)) ∙ refused_later _ _ _ (rw c.value-6.ensures at (sym c.is_any_version.ensures ∙ c.if-not-is_any_version.false)) ∙ refused_none _)
