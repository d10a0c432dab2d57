use Rattle.std.proofs.Common.{◌≡◌, ◌-◌, ◌≤◌, suc, length}
use Rattle.std.specs.Io.KnownBytes.{prepend_known}
use Rattle.kubeconv_cmd.specs.declared.input.TheConstants.{MOST_INPUT_BYTES}
use Rattle.kubeconv_cmd.proofs.input.read_input.Given as goal

-- the bytes were read
abbrev pub invariant-loop-input : goal.invariant-loop-input
invariant-loop-input g l = record {
  read : g.S.Source.left l.fn.input ≡ prepend_known l.bytes.items (g.S.Source.left l.input);
  later : g.S.Source.faults l.fn.input ≤ g.S.Source.faults l.input;
}

abbrev pub decreases-loop-input : goal.decreases-loop-input
decreases-loop-input g l = suc MOST_INPUT_BYTES - length l.bytes.items
