use Rattle.std.proofs.Common.{◌≡◌, ◌∙◌, ℕ, List, subst, sym, rules, flat_map}
use Rattle.kj_value.specs.Text.{escaped_byte}
use Rattle.call_texts.proofs.AsItStands.{number_as_it_stands, uid_as_it_stands}
use Rattle.call_texts.proofs.context.Context.as_it_stands.Goals as goal

pub numbered-requires-clause-number : goal.numbered-requires-clause-number
numbered-requires-clause-number g c =
    subst (λ (bs : List ℕ). flat_map escaped_byte bs ≡ bs) (sym c.format.ensures.text) (number_as_it_stands c.args.seen.now.rv (search rules))

pub numbered-requires-clause-uid : goal.numbered-requires-clause-uid
numbered-requires-clause-uid g c =
    subst (λ (bs : List ℕ). flat_map escaped_byte bs ≡ bs) (sym (c.as_str-2.ensures ∙ c.in_ok-uid.ensures)) (uid_as_it_stands c.args.self.now.boot c.args.seen.now.born)
