use Rattle.std.specs.Prelude.{decimal}
use Rattle.call_texts.specs.PageTexts.{before_left, left_text}
use Rattle.call_texts.proofs.Pieces.{known, left-some, onward}
use Rattle.call_texts.proofs.page_text.add_left.Goals as goal

pub returns : goal.returns
unfolding before_left
returns c =
    known (left_text c.args.remaining) (left-some c.args.remaining c.if-remaining-eq0.false)
    (onward c.in_ok-add.ensures (known (decimal c.args.remaining) c.format.ensures.text c.in_ok-add-2.ensures))
