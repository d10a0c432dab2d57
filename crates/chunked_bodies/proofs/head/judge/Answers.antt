use Rattle.chunked_bodies.proofs.Heads.{found_head, no_coding, other_minor}
use Rattle.chunked_bodies.proofs.head.judge.Goals as goal

pub returns-then-found-ne1 : goal.returns-then-found-ne1
returns-then-found-ne1 c = λ h k after reads chunked.
    other_minor c.args.bytes.now after c.args.headers.now c.args.found c.requires.head.0 h k c.requires.head.1 c.if-found-ne1.true reads chunked

pub returns-in-Some : goal.returns-in-Some
returns-in-Some c = (
  c.requires.head.0,
  found_head c.args.bytes.now c.args.headers.now c.args.found c.requires.head.0 c.in-Some.coding c.requires.head.1 c.requires.within c.requires.few c.requires.begins.1 c.if-found-ne1.false c.in-Some.ensures,
)

pub returns-in-None : goal.returns-in-None
returns-in-None c = λ h k after reads chunked.
    no_coding c.args.bytes.now after c.args.headers.now c.args.found c.requires.head.0 h k c.requires.head.1 c.in-None.ensures reads chunked
