-- What an assignment has to meet besides its case where biases are marked.
use Rattle.std.specs.Prelude.{ℕ, Bool, true, false, not, ◌&&◌, ◌||◌, List, [], ◌∷◌, slice_index_or}
use Rattle.std.specs.List.{list_all}
use Rattle.dom_set.specs.Elements.{is_in}
use Rattle.rv_isa.specs.declared.operation.Op.{Op}
use Rattle.fd_prob.specs.declared.problem.Assignment.{Assignment}
use Rattle.fd_prob.specs.declared.problem.Extra.{Extra}
use Rattle.fd_prob.specs.declared.slot.Slot.{Slot}
use Rattle.fd_prob.specs.Relations.{holds, value_of}

-- the value of the variable is in the set that its domain is cut to
abbrev pub is_in_cut : Assignment → Slot × List ℕ → Bool
is_in_cut x cut = is_in cut.1 (value_of x cut.0)

-- the assignment meets what the bias adds to the case at a place, which is of this operation
abbrev pub meets_bias : Op → Assignment → ℕ → Extra → Bool
meets_bias op x place e = slice_index_or e.cases place false && list_all (is_in_cut x) e.cuts && list_all (holds op x) e.rels

-- the same of each marked bias
abbrev pub meets_marked : Op → Assignment → ℕ → List Bool → List Extra → Bool
meets_marked op x place [] es = true
meets_marked op x place (mark ∷ marks) [] = true
meets_marked op x place (mark ∷ marks) (e ∷ es) = (not mark || meets_bias op x place e) && meets_marked op x place marks es
