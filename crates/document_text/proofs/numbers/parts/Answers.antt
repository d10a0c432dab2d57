use Rattle.document_text.proofs.Putting.{put-together}
use Rattle.document_text.proofs.numbers.parts.Goals as goal

pub returns-clause-parts : goal.returns-clause-parts
returns-clause-parts c = λ x b n u pn pu. put-together x c.args.text.now n u _ _ _ c.cut-place.result.0 c.cut-place.result.1 (c.cut-place.ensures x b) c.split_at.ensures.front c.between_fields.ensures c.split_at.ensures.back pn pu
