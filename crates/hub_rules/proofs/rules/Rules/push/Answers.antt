use Rattle.hub_rules.proofs.Pushed.{sound_push, depth_push}
use Rattle.hub_rules.proofs.rules.Rules.push.Goals as goal

pub invariant_of-self-2 : goal.invariant_of-self-2
invariant_of-self-2 c =
    rw c.in_ok-push.ensures.items (sound_push _ _ c.self.invariant.0 c.requires.sound, depth_push _ _ _ c.self.invariant.1 c.requires.depth)
