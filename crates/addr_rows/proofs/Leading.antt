-- Entries with one target have the same ends.
use Rattle.std.proofs.Common.{◌≡◌, ◌==◌, ℕ, ◌+◌, ◌*◌, ◌/◌, ◌%◌, ◌^◌, Bool, true, false, not, ◌&&◌, ◌||◌, if◌then◌else◌, List, Option, refl, sym, ap, ◌∙◌, arith}
use Rattle.rv_mem.specs.declared.words.Seen.{Seen}
use Rattle.sv_walk.specs.declared.entry.Kind.{Kind}
use Rattle.sv_walk.specs.declared.entry.View.{View}
use Rattle.sv_walk.specs.Entry.{page_number, is_invalid, is_pointer, is_reserved, is_unaligned, is_closed, page_cause}
use Rattle.sv_walk.specs.Translation.{Reached, Fails, arrived, second_end}
use Rattle.row_parts.specs.declared.target.Target.{Target}
use Rattle.row_parts.specs.declared.target.Target.TheVariants.{PageFault, Frame, Outside, Table}
use Rattle.row_parts.specs.Classes.{entry_at}
use Rattle.row_parts.specs.Rows.{End, Reaches, Leaves, found, when}
use Rattle.addr_rows.specs.Combinations.{Setting, no, is_table, root_frame, page_fault, at_second, pointed, rooted}
use Rattle.row_parts.specs.Gaps.{are_indices_equal}
use Rattle.row_parts.specs.Internal.Targets.{second_target, root_target}

abbrev second_led : (ℕ → Bool) → Kind → ℕ → Target → Reached
second_led ram k x PageFault = Fails (page_cause k)
second_led ram k x (Frame f) = arrived ram k (f * 2 ^ 12 + x % 2 ^ 12)
second_led ram k x Outside = Fails (page_cause k)
second_led ram k x (Table f) = Fails (page_cause k)

second_by : (ram : ℕ → Bool) (v : View) (k : Kind) (x e : ℕ) → second_end ram v k x e ≡ second_led ram k x (second_target v k e)
unfolding second_end second_target
second_by ram v k x e = go (is_invalid e || (is_pointer e || is_closed v k e))
  where
    go : (b : Bool) → (if b then Fails (page_cause k) else arrived ram k (page_number e * 2 ^ 12 + x % 2 ^ 12)) ≡ second_led ram k x (if b then PageFault else Frame (page_number e))
    go true = refl
    go false = refl

pub seconds_alike : (ram : ℕ → Bool) (v : View) (k : Kind) (a b x : ℕ) → second_target v k a ≡ second_target v k b → second_end ram v k x a ≡ second_end ram v k x b
seconds_alike ram v k a b x same = second_by ram v k x a ∙ ap (second_led ram k x) same ∙ sym (second_by ram v k x b)

abbrev root_led : (ℕ → Seen) → Setting → ℕ → Option ℕ → Target → List End
root_led at st x leaf PageFault = found (no leaf) (page_fault st)
root_led at st x leaf (Frame f) = found (no leaf) (Reaches (arrived st.ram st.kind (f * 4096 + x % 2 ^ 22)))
root_led at st x leaf Outside = found (no leaf) Leaves
root_led at st x leaf (Table f) = pointed at st true f x leaf

superpage : (e x : ℕ) → e / 2 ^ 20 * 2 ^ 22 + x % 2 ^ 22 ≡ e / 2 ^ 20 * 1024 * 4096 + x % 2 ^ 22
superpage e x = omega arith

pub root_by : (at : ℕ → Seen) (st : Setting) (x : ℕ) (leaf : Option ℕ) (e : ℕ) → rooted at st true e x leaf ≡ root_led at st x leaf (root_target st.view st.kind e)
unfolding rooted root_target
root_by at st x leaf e = go (is_invalid e) (is_pointer e) (is_reserved e) (is_unaligned e || is_closed st.view st.kind e)
  where
    go : (a b c d : Bool)
        → (if a then found (no leaf) (page_fault st)
        else if b then (if c then found (no leaf) Leaves else pointed at st true (page_number e) x leaf)
        else if d then found (no leaf) (page_fault st)
        else found (no leaf) (Reaches (arrived st.ram st.kind (e / 2 ^ 20 * 2 ^ 22 + x % 2 ^ 22))))
        ≡ root_led at st x leaf (if a then PageFault else if b then (if c then Outside else Table (page_number e)) else if d then PageFault else Frame (e / 2 ^ 20 * 1024))
    go true b c d = refl
    go false true true d = refl
    go false true false d = refl
    go false false c true = refl
    go false false c false = ap (λ (n : ℕ). found (no leaf) (Reaches (arrived st.ram st.kind n))) (superpage e x)

-- pointers to two tables other than the root's, with the same entry
pub tables_alike : (at : ℕ → Seen) (st : Setting) (f g x : ℕ) (leaf : Option ℕ) → (f == root_frame st.view) ≡ false → (g == root_frame st.view) ≡ false → is_table st.tables f ≡ is_table st.tables g
    → entry_at at f (x / 2 ^ 12 % 2 ^ 10) ≡ entry_at at g (x / 2 ^ 12 % 2 ^ 10) → pointed at st true f x leaf ≡ pointed at st true g x leaf
unfolding pointed
tables_alike at st f g x leaf first second tables entries =
    ap (λ (b : Bool). at_second st (is_table st.tables f && not (true && (b && are_indices_equal x))) x (entry_at at f (x / 2 ^ 12 % 2 ^ 10)) leaf) first
    ∙ ap (λ (b : Bool). at_second st (b && not (true && (false && are_indices_equal x))) x (entry_at at f (x / 2 ^ 12 % 2 ^ 10)) leaf) tables
    ∙ ap (λ (s : Seen). at_second st (is_table st.tables g && not (true && (false && are_indices_equal x))) x s leaf) entries
    ∙ sym (ap (λ (b : Bool). at_second st (is_table st.tables g && not (true && (b && are_indices_equal x))) x (entry_at at g (x / 2 ^ 12 % 2 ^ 10)) leaf) second)

-- pointers to two tables, by their targets
pub roots_alike : (at : ℕ → Seen) (st : Setting) (a b x : ℕ) (leaf : Option ℕ) → root_target st.view st.kind a ≡ root_target st.view st.kind b → rooted at st true a x leaf ≡ rooted at st true b x leaf
roots_alike at st a b x leaf same = root_by at st x leaf a ∙ ap (root_led at st x leaf) same ∙ sym (root_by at st x leaf b)

pub pointers_alike : (at : ℕ → Seen) (st : Setting) (a b f g x : ℕ) (leaf : Option ℕ) → root_target st.view st.kind a ≡ Table f → root_target st.view st.kind b ≡ Table g → pointed at st true f x leaf ≡ pointed at st true g x leaf
    → rooted at st true a x leaf ≡ rooted at st true b x leaf
pointers_alike at st a b f g x leaf first second same =
    root_by at st x leaf a ∙ ap (root_led at st x leaf) first ∙ same ∙ sym (root_by at st x leaf b ∙ ap (root_led at st x leaf) second)

pub when_alike : (b : Bool) (es fs : List End) → (b ≡ true → es ≡ fs) → when b es ≡ when b fs
when_alike true es fs h = h refl
when_alike false es fs h = refl
