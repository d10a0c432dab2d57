use Rattle.std.proofs.Common.{◌≡◌, ◌≤◌, ℕ, length}
use Rattle.kube_meta.specs.Window.{floor_from, newest}
use Rattle.record_store.specs.Held.{holders, pieces_at, trimmed}
use Rattle.record_store.specs.Pasts.{past_by, past_weight, rows_of}
use Rattle.record_store.proofs.window.Window.trim.Given as goal

abbrev pub invariant-loop-self : goal.invariant-loop-self
invariant-loop-self l = record {
  limits : l.self.limits ≡ l.fn.self.limits;
  items : newest past_weight l.fn.self.limits l.self.items ≡ newest past_weight l.fn.self.limits l.fn.self.items;
  floor : floor_from past_by past_weight l.fn.self.limits l.self.floor l.self.items ≡ floor_from past_by past_weight l.fn.self.limits l.fn.self.floor l.fn.self.items;
  region : trimmed l.fn.self.limits l.self.items l.region ≡ trimmed l.fn.self.limits l.fn.self.items l.fn.region;
  apart : (chunk : ℕ) → holders chunk (rows_of l.self.items) ≤ pieces_at l.region chunk;
}

abbrev pub decreases-loop-self : goal.decreases-loop-self
decreases-loop-self l = length l.self.items
