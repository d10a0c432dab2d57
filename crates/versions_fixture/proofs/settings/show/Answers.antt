use Rattle.std.specs.Prelude.{◌==◌}
use Rattle.api_calls.specs.Versions.{versions_of}
use Rattle.versions_fixture.specs.Definition.{before_v1, before_v1beta1, before_stored, behind_stored, flags_text, names_text, served_at}
use Rattle.versions_fixture.proofs.Pieces.{seven_text, seven_room}
use Rattle.versions_fixture.proofs.settings.show.Goals as goal

pub returns-clause-text : goal.returns-clause-text
unfolding before_v1 before_v1beta1 before_stored behind_stored
returns-clause-text c =
    seven_text c.args.out.now.bytes c.add.new.self.bytes c.add_flags.new.out.bytes c.add-2.new.self.bytes c.add_flags-2.new.out.bytes c.add-3.new.self.bytes c.add_names.new.out.bytes c.add-4.new.self.bytes
    before_v1 (flags_text (served_at c.args.flags.now 0) (c.args.flags.now.storage == 0)) before_v1beta1 (flags_text (served_at c.args.flags.now 1) (c.args.flags.now.storage == 1)) before_stored (names_text (versions_of c.args.stored.now)) behind_stored
    c.add.ensures.bytes c.add_flags.ensures.text c.add-2.ensures.bytes c.add_flags-2.ensures.text c.add-3.ensures.bytes c.add_names.ensures.text c.add-4.ensures.bytes

pub returns-clause-room : goal.returns-clause-room
unfolding before_v1 before_v1beta1 before_stored behind_stored
returns-clause-room c =
    seven_room c.args.out.now.room c.add.new.self.room c.add_flags.new.out.room c.add-2.new.self.room c.add_flags-2.new.out.room c.add-3.new.self.room c.add_names.new.out.room c.add-4.new.self.room
    before_v1 (flags_text (served_at c.args.flags.now 0) (c.args.flags.now.storage == 0)) before_v1beta1 (flags_text (served_at c.args.flags.now 1) (c.args.flags.now.storage == 1)) before_stored (names_text (versions_of c.args.stored.now)) behind_stored
    c.add.ensures.room c.add_flags.ensures.room c.add-2.ensures.room c.add_flags-2.ensures.room c.add-3.ensures.room c.add_names.ensures.room c.add-4.ensures.room
