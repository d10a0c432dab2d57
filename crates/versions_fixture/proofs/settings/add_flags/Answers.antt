use Rattle.std.proofs.Common.{◌∙◌, ℕ, ◌+◌, ◌++◌, List, length, ap, sym}
use Rattle.versions_fixture.specs.Definition.{flag_text, before_storage}
use Rattle.versions_fixture.proofs.Pieces.{three_text, three_room, short_flags}
use Rattle.versions_fixture.proofs.settings.add_flags.Goals as goal

pub returns-clause-text : goal.returns-clause-text
unfolding before_storage
returns-clause-text c =
    three_text c.args.out.now.bytes c.add.new.self.bytes c.add-2.new.self.bytes c.add-3.new.self.bytes
    (flag_text c.args.served) before_storage (flag_text c.args.stored)
    (c.add.ensures.bytes ∙ ap (λ (p : List ℕ). c.args.out.now.bytes ++ p) c.flag_text.ensures.text)
    c.add-2.ensures.bytes
    (c.add-3.ensures.bytes ∙ ap (λ (p : List ℕ). c.add-2.new.self.bytes ++ p) c.flag_text-2.ensures.text)

pub returns-clause-room : goal.returns-clause-room
unfolding before_storage
returns-clause-room c =
    three_room c.args.out.now.room c.add.new.self.room c.add-2.new.self.room c.add-3.new.self.room
    (flag_text c.args.served) before_storage (flag_text c.args.stored)
    (ap (λ (p : List ℕ). c.add.new.self.room + length p) (sym c.flag_text.ensures.text) ∙ c.add.ensures.room)
    c.add-2.ensures.room
    (ap (λ (p : List ℕ). c.add-3.new.self.room + length p) (sym c.flag_text-2.ensures.text) ∙ c.add-3.ensures.room)

pub returns-clause-short : goal.returns-clause-short
returns-clause-short c = short_flags c.args.served c.args.stored
