use Rattle.crd_meaning.proofs.Forms.{one_form, only_hub}
use Rattle.crd_meaning.proofs.Made.{has_form}
use Rattle.crd_meaning.proofs.laws.one_to_one.Goals as goal

pub returns : goal.returns
returns c = λ d l. record {
  total = has_form c.given.ensures d l;
  function = λ v h x y known w p q. one_form c.known.ensures d l v h x y w p q;
  injective = λ v g h x known wg wh p q. only_hub c.known.ensures d l v g h x wg wh p q;
}
