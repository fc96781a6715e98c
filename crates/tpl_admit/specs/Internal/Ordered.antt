-- Dropped biases in order.
use Rattle.std.specs.Prelude.{ℕ, Bool, true, ◌&&◌, List, [], ◌∷◌}
use Rattle.std.specs.List.{list_all}
use Rattle.tpl_admit.specs.declared.dropped.Dropped.{Dropped}
use Rattle.tpl_admit.specs.Admitting.{comes_before}

-- it stands before an atom of a step, by hart, step and atom
abbrev pub stands_before : ℕ → ℕ → ℕ → Dropped → Bool
stands_before hart step atom d = comes_before (record { hart = d.hart; step = d.step; atom = d.atom }) (record { hart = hart; step = step; atom = atom })

-- each stands before those behind it
abbrev pub is_ascending : List Dropped → Bool
is_ascending [] = true
is_ascending (d ∷ ds) = list_all (λ e. stands_before e.hart e.step e.atom d) ds && is_ascending ds
