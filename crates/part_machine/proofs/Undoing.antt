-- Wholes by their parts.
use Rattle.std.proofs.Common.{◌≡◌, ℕ}
use Rattle.std.proofs.Math.Path.{fun_ext}
use Rattle.rv_script.specs.declared.access.Role.{Role}
use Rattle.part_machine.specs.Whole.{Whole}

-- two wholes are the same, part by part
pub record IsSameWhole (v w : Whole) : Type 0 where
  pub ram : v.ram ≡ w.ram
  pub first : v.first ≡ w.first
  pub words : v.words ≡ w.words
  pub traces : v.traces ≡ w.traces
  pub harts : v.harts ≡ w.harts
  pub memory : (n : ℕ) → v.memory n ≡ w.memory n
  pub feet : (b h : ℕ) (r : Role) → v.feet b h r ≡ w.feet b h r
  pub names : v.names ≡ w.names
  pub choices : v.choices ≡ w.choices
  pub dropped : v.dropped ≡ w.dropped

pub same_whole : (v w : Whole) → IsSameWhole v w → v ≡ w
same_whole v w s =
    let memory : v.memory ≡ w.memory = fun_ext s.memory in
    let feet : v.feet ≡ w.feet = fun_ext (λ b. fun_ext (λ h. fun_ext (λ r. s.feet b h r))) in
    λ i. record {
      ram = s.ram i;
      first = s.first i;
      words = s.words i;
      traces = s.traces i;
      harts = s.harts i;
      memory = memory i;
      feet = feet i;
      names = s.names i;
      choices = s.choices i;
      dropped = s.dropped i;
    }
