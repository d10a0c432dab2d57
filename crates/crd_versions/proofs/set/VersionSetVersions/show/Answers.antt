use Rattle.crd_versions.proofs.set.VersionSetVersions.show.Goals as goal

pub show-requires : goal.show-requires
show-requires c = record {
  definition = c.args.self.now.set.view;
  pieces = c.args.self.now.its_pieces;
  known = c.requires.stored;
  fits = c.requires.room;
}

pub returns : goal.returns
returns c = record {
  text = c.show.ensures.text c.args.self.now.set.view c.args.self.now.its_pieces;
  room = c.show.ensures.room c.args.self.now.set.view c.args.self.now.its_pieces;
}
