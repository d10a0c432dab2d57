-- A weight isn't 0.
use Rattle.std.proofs.Common.{ℕ, ◌<◌, ◌≤◌, length, arith}
use Rattle.kj_value.specs.Text.{text_of}
use Rattle.kube_meta.specs.View.{ObjectView}
use Rattle.kube_meta.specs.Document.{document}
use Rattle.api_calls.specs.Meaning.{Weighs, unnumbered, widest, chunks, measure}
use Rattle.crd_meaning.specs.Definition.{Definition}
use Rattle.crd_meaning.specs.Meant.{meant}

text_some : (x : ObjectView) → 1 ≤ length (text_of (document x))
unfolding document
text_some x = omega arith

chunks_some : (n : ℕ) → 1 ≤ n → 1 ≤ chunks n
chunks_some n h = omega arith

pub weighs_some : (d : Definition) (h : ObjectView) (w : ℕ) → Weighs (meant d) h w → 0 < w
weighs_some d h w weighs =
    let some = chunks_some (measure weighs.met.1) (text_some (unnumbered (widest weighs.met.1))) in
    omega (arith, some, weighs.met.4)
