use Rattle.crd_versions.proofs.set.VersionSetVersions.show_room.Goals as goal

pub returns : goal.returns
returns c = c.room.ensures c.args.self.now.set.view c.args.self.now.its_pieces
