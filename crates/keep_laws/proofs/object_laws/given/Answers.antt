use Rattle.keep_laws.proofs.object_laws.given.Goals as goal

pub returns : goal.returns
returns c = record {
  one = c.one_list.ensures;
  known = c.body_in_words.ensures.known;
  allowed = c.body_in_words.ensures.allowed;
  set = c.body_in_words.ensures.set;
  body = c.whole_is_body.ensures;
  words = c.whole_in_words.ensures;
}
