-- Which leaves and labels can be taken.
use Rattle.std.specs.Prelude.{◌≡◌, ℕ, ◌%◌, ◌^◌, ◌<◌, ◌≤◌, true, false, List, length}
use Rattle.std.specs.List.{AllByRecursion, list_all}
use Rattle.rv_csr.specs.declared.access.CsrAccess.{CsrAccess}
use Rattle.tpl_ast.specs.declared.template.Item.{Item}
use Rattle.tpl_ast.specs.declared.template.Item.TheVariants as items
use Rattle.tpl_ast.specs.declared.template.Template.{Template}
use Rattle.tpl_ast.specs.declared.template.Wish.{Wish}
use Rattle.tpl_ast.specs.Leaves.{IsPlain, NamedOnce, atoms_of, is_name_below}
use Rattle.tpl_ast.specs.Limits.{most_atoms}
use Rattle.part_machine.specs.Whole.{Whole, fixed_in, hart_of}
use Rattle.part_state.specs.Meaning.{IsTest}
use Rattle.rv_mem.specs.Frames.{in_frames}
use Rattle.leaf_link.specs.Values.{fixed_value}
use Rattle.leaf_link.specs.Ways.{AreWords}
use Rattle.data_bytes.specs.Frames.{AreFrames}
use Rattle.leaf_turn.specs.Grounds.{HasFewForms}
use Rattle.turn_laws.specs.Ahead.{AreVectors}
use Rattle.turn_laws.specs.Given.{known_at}
use Rattle.gen_turn.specs.Drafts.{Drafted}

-- what is known of hart k and of memory is words, and so are the hart's CSRs that are always known; its pc is a multiple of 4
pub record IsOfWords (k : ℕ) (w : Whole) : Type 0 where
  pub aligned : (hart_of k w).pc % 4 ≡ 0
  pub known : AreWords (known_at k w)
  pub fixed : (access : CsrAccess) → fixed_value (fixed_in (hart_of k w) w.memory) access < 2 ^ 32

-- a hart of a test of the template
pub record IsGround (d : Drafted) (k : ℕ) : Type 0 where
  pub hart : k < length d.now.harts
  pub few : k < 2 ^ 8
  pub names : length d.now.names ≡ length d.template.names
  pub few_names : length d.template.names < 2 ^ 32
  pub frames : AreFrames d.template.pool
  pub forms : HasFewForms d.template
  pub vectors : AreVectors d.template.vectors
  pub apart : (addr : ℕ) → in_frames d.template.tables addr ≡ true → in_frames d.template.pool addr ≡ false
  pub test : IsTest d.now
  pub words : IsOfWords k d.now

-- a leaf's atoms are those of a leaf of the template
pub record IsLeafOf (t : Template) (ws : List Wish) : Type 0 where
  pub plain : AllByRecursion IsPlain (atoms_of ws)
  pub below : list_all (is_name_below (length t.names)) (atoms_of ws) ≡ true
  pub short : length ws ≤ most_atoms
  pub once : NamedOnce (atoms_of ws)

-- a leaf or a label that can be taken
abbrev pub CanTake : Drafted → ℕ → Item → Type 0
CanTake d k (items.Leaf line ws) = IsGround d k × IsLeafOf d.template ws.items
CanTake d k (items.FetchFault line causes) = IsGround d k
CanTake d k (items.Label name) = IsGround d k × (name < length d.template.names)
CanTake d k _ = ⊥

-- as many harts and names; it is still a test, and what is known is still words
pub record IsSameGround (old new : Whole) : Type 0 where
  pub harts : length new.harts ≡ length old.harts
  pub names : length new.names ≡ length old.names
  pub test : IsTest old → IsTest new
  pub words : (k : ℕ) → IsOfWords k old → IsOfWords k new
