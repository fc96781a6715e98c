-- The list of wholes, entry by entry.
use Rattle.std.proofs.Common.{◌≡◌, ℕ, ◌+◌, ◌≤◌, List, [], ◌∷◌, ◌++◌, length, reverse, take, arith, refl, sym, ap, ◌∙◌, subst, length-append}
use Rattle.std.proofs.lemmas.List.{length-reverse, reverse-append, take_at, take-take, take_all}
use Rattle.part_machine.specs.declared.entry.Entry.{Entry}
use Rattle.part_machine.specs.Whole.{Whole, wholes}
use Rattle.part_machine.specs.Undo.{undone, IsWithin, before, AreWithin, history_of}

length_before : (es : List Entry) (w : Whole) → length (before es w) ≡ length es
length_before [] w = refl
length_before (e ∷ es) w = omega (arith, length_before es (undone e w), length-append (before es (undone e w)) (undone e w ∷ []))

pub length_earlier : (log : List Entry) (w : Whole) → length (before (reverse log) w) ≡ length log
length_earlier log w = length_before (reverse log) w ∙ length-reverse log

reversed : (log : List Entry) (e : Entry) → reverse (log ++ e ∷ []) ≡ e ∷ reverse log
reversed log e = reverse-append log (e ∷ [])

-- a change with its entry
pub changed : (log : List Entry) (e : Entry) (old new : Whole) → undone e new ≡ old → before (reverse (log ++ e ∷ [])) new ≡ before (reverse log) old ++ old ∷ []
changed log e old new back = ap (λ (es : List Entry). before es new) (reversed log e) ∙ ap (λ (w : Whole). before (reverse log) w ++ w ∷ []) back

pub within_more : (log : List Entry) (e : Entry) (old new : Whole) → undone e new ≡ old → IsWithin e new → AreWithin (reverse log) old → AreWithin (reverse (log ++ e ∷ [])) new
within_more log e old new back here rest =
    subst (λ (es : List Entry). AreWithin es new) (sym (reversed log e)) (here, subst (λ (w : Whole). AreWithin (reverse log) w) (sym back) rest)

-- one entry popped
pub popped : (log es : List Entry) (e : Entry) (w : Whole) (all : List Whole) → log ≡ es ++ e ∷ [] → wholes (history_of log w) ≡ take (length log + 1) all
    → wholes (history_of es (undone e w)) ≡ take (length es + 1) all
popped log es e w all same fore =
    let earlier : List Whole = before (reverse es) (undone e w) ++ undone e w ∷ [] in
    let size : length log ≡ length es + 1 = ap length same ∙ length-append es (e ∷ []) in
    let whole : earlier ++ w ∷ [] ≡ take (length es + 1 + 1) all =
    sym (ap (λ (l : List Entry). wholes (history_of l w)) same ∙ ap (λ (l : List Entry). before l w ++ w ∷ []) (reversed es e)) ∙ fore ∙ ap (λ (n : ℕ). take (n + 1) all) size in
    let count : length earlier ≡ length es + 1 = omega (arith, length-append (before (reverse es) (undone e w)) (undone e w ∷ []), length_before (reverse es) (undone e w), length-reverse es) in
    let there : length es + 1 ≤ length es + 1 + 1 = omega arith in
    sym (take_at earlier (w ∷ []) (length es + 1) count) ∙ ap (take (length es + 1)) whole ∙ take-take (length es + 1) (length es + 1 + 1) all there

pub popped_within : (log es : List Entry) (e : Entry) (w : Whole) → log ≡ es ++ e ∷ [] → AreWithin (reverse log) w → IsWithin e w × AreWithin (reverse es) (undone e w)
popped_within log es e w same within = subst (λ (l : List Entry). AreWithin l w) (ap reverse same ∙ reversed es e) within

pub start : (log : List Entry) (w : Whole) → wholes (history_of log w) ≡ take (length log + 1) (wholes (history_of log w))
start log w = sym (take_all (length log + 1) (wholes (history_of log w)) (omega (arith, length-append (before (reverse log) w) (w ∷ []), length_earlier log w)))

-- the entry that is popped can be undone, and then the next ones can
pub undone_kept : (log es : List Entry) (e : Entry) (w w' : Whole) → log ≡ es ++ e ∷ [] → w' ≡ undone e w → AreWithin (reverse log) w → AreWithin (reverse es) w'
undone_kept log es e w w' same back within = subst (λ (v : Whole). AreWithin (reverse es) v) (sym back) (popped_within log es e w same within).1

pub undone_fore : (log es : List Entry) (e : Entry) (w w' : Whole) (all : List Whole) → log ≡ es ++ e ∷ [] → w' ≡ undone e w → wholes (history_of log w) ≡ take (length log + 1) all
    → wholes (history_of es w') ≡ take (length es + 1) all
undone_fore log es e w w' all same back fore = ap (λ (v : Whole). wholes (history_of es v)) back ∙ popped log es e w all same fore

-- a change with its entry, on the log after it
pub changed_on : (log log' : List Entry) (e : Entry) (old new : Whole) → log' ≡ log ++ e ∷ [] → undone e new ≡ old → before (reverse log') new ≡ before (reverse log) old ++ old ∷ []
changed_on log log' e old new is back = ap (λ (l : List Entry). before (reverse l) new) is ∙ changed log e old new back

pub within_on : (log log' : List Entry) (e : Entry) (old new : Whole) → log' ≡ log ++ e ∷ [] → undone e new ≡ old → IsWithin e new → AreWithin (reverse log) old → AreWithin (reverse log') new
within_on log log' e old new is back here rest = subst (λ (l : List Entry). AreWithin (reverse l) new) (sym is) (within_more log e old new back here rest)
