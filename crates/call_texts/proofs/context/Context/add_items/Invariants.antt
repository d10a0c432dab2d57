use Rattle.std.proofs.Common.{◌≡◌, ◌≤◌, List, take}
use Rattle.std.specs.Prelude.{string_bytes}
use Rattle.api_calls.specs.Item.{Item}
use Rattle.api_calls.specs.Legal.{Each}
use Rattle.call_texts.specs.Cached.{AreCached, WasSeen}
use Rattle.call_texts.specs.Listing.{AddsItems}
use Rattle.call_texts.proofs.context.Context.add_items.Given as goal

abbrev pub invariant-loop-i : goal.invariant-loop-i
invariant-loop-i g l = record {
  added : (log : List Item) → Each (WasSeen (g.V.Versions.meaning l.self.versions.now) log) l.items → AreCached (g.V.Versions.meaning l.self.versions.now) l.self.boot log l.fn.cache.forms
      → AddsItems (g.V.Versions.meaning l.self.versions.now) l.self.boot l.v (string_bytes l.fn.text) (take l.i l.items) (string_bytes l.text);
  cached : (log : List Item) → Each (WasSeen (g.V.Versions.meaning l.self.versions.now) log) l.items → AreCached (g.V.Versions.meaning l.self.versions.now) l.self.boot log l.fn.cache.forms
      → AreCached (g.V.Versions.meaning l.self.versions.now) l.self.boot log l.cache.forms;
  most : l.cache.most ≡ l.fn.cache.most;
  rises : g.V.Tool.Tool.faults l.fn.tool ≤ g.V.Tool.Tool.faults l.tool;
}
