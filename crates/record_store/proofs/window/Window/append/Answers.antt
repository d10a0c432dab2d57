use Rattle.std.proofs.Common.{◌≡◌, [], ◌∷◌, ◌++◌, length, length-append, arith, ap, rules}
use Rattle.kube_meta.specs.Window.{weights}
use Rattle.kube_meta.specs.laws.WindowLaws.{weights-append}
use Rattle.record_store.specs.Pasts.{Pasts, past_by, past_weight}
use Rattle.record_store.proofs.window.Window.append.Goals as goal

pub invariant_of-self : goal.invariant_of-self
invariant_of-self c =
    let few = c.requires.few in
    let lengths = ap (λ (v : Pasts). length v.items) c.self.view_is in
    let limits = ap (λ (v : Pasts). v.limits.window_records) c.self.view_is in
    let items : c.push_back.new.self.items ≡ c.self.inside.items.items ++ c.args.past ∷ [] = search rules in
    let more = weights-append past_by past_weight c.self.inside.limits c.self.inside.items.items (c.args.past ∷ []) in
    let all = ap (weights past_weight) items in
    let long = ap length items in
    (omega (arith, all, more), omega (arith, few, lengths, limits, long, length-append c.self.inside.items.items (c.args.past ∷ [])), omega (arith, c.push_back.ensures.capacity, c.self.invariant.2))
