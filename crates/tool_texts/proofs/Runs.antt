-- Runs in an order that is drawn.
use Rattle.std.proofs.Common.{◌≡◌, ℕ, zero, suc, ◌+◌, ◌<◌, ◌≤◌, true, if◌then◌else◌, List, [], ◌∷◌, ◌++◌, length, map, drop, get_or, Some, None, refl, sym, ap, ◌∙◌, append_assoc, append-nil, arith}
use Rattle.std.proofs.lemmas.List.{drop_all, drop_more, take_all}
use Rattle.std.proofs.lemmas.List.Sums.{sum_by-cons}
use Rattle.std.specs.Prelude.{sum_by, slice_index, slice_index_or}
use Rattle.std.specs.List.{AllByRecursion}
use Rattle.rand_pcg.specs.Lcg.{Lcg}
use Rattle.rand_pcg.specs.Pcg.{pcg32}
use Rattle.rv_hart.specs.declared.record.Record.{Record}
use Rattle.rv_hart.specs.Clauses.{IsFitRecord}
use Rattle.tpl_ast.specs.Limits.{most_records}
use Rattle.tpl_ast.specs.declared.template.Region.{Region}
use Rattle.tpl_ast.specs.declared.template.Template.{Template}
use Rattle.tpl_admit.specs.declared.certificate.Cert.{Cert}
use Rattle.rv_system.specs.Faithfulness.{IsFaithful, Keeps}
use Rattle.tpl_admit.specs.Laws.{with_template}
use Rattle.tpl_admit.specs.Starts.{AgreesWith, first_system, trace_of}
use Rattle.tpl_admit.specs.System.{of_hart, times}
use Rattle.tpl_admit.specs.Validity.{IsSound, IsValid}
use Rattle.tpl_admit.specs.WellFormed.{IsRecord, IsWellFormed}
use Rattle.run_order.specs.Orders.{TurnsAreTaken, drawn, one_less, order_of, picked, turns_in}
use Rattle.trace_text.specs.Events.{events_text}
use Rattle.gen_turn.proofs.FileFits.{fit_record}
use Rattle.tool_texts.specs.Exec.{drawn_run, drawn_turns, run_text}

-- ---- records and turns
pub all_records : (es : List (ℕ × Record)) → AllByRecursion (λ e. IsFitRecord e.1) es → AllByRecursion (λ e. IsRecord e.1) es
all_records [] fit = tt
all_records (e ∷ es) fit = (fit_record e.1 fit.0, all_records es fit.1)

drawn_length : (n : ℕ) (g : Lcg) (left : List ℕ) → length (drawn n g left) ≡ n
drawn_length zero g left = refl
drawn_length (suc n) g left = ap (λ (m : ℕ). suc m) (drawn_length n (pcg32 g).1 (one_less (picked (pcg32 g).0 left) left))

-- an order has all turns
pub order_length : (number : ℕ) (left : List ℕ) → length (order_of number left) ≡ turns_in left
order_length number left = drawn_length (turns_in left) _ left

abbrev pub turns_of : List (List Record) → List ℕ
turns_of ts = map (λ t. length t) ts

pub turns_sum : (ts : List (List Record)) → turns_in (turns_of ts) ≡ sum_by (λ t. length t) ts
turns_sum [] = refl
turns_sum (t ∷ ts) = ap (λ (n : ℕ). length t + n) (turns_sum ts) ∙ sym (sum_by-cons (λ r. length r) t ts)

pub turns_few : (c : Cert) → IsWellFormed c → turns_in (turns_of c.traces) ≤ most_records
turns_few c well = omega (arith, turns_sum c.traces, well.steps)

pub turns_count : (ts : List (List Record)) → length (turns_of ts) ≡ length ts
turns_count [] = refl
turns_count (t ∷ ts) = ap (λ (n : ℕ). suc n) (turns_count ts)

-- each hart has at most as many turns as there are in all
pub turns_within : (ts : List (List Record)) (i : ℕ) (d : List Record) → i < length ts → length (get_or ts i d) ≤ turns_in (turns_of ts)
turns_within [] i d within = absurd (omega (arith, within))
turns_within (t ∷ ts) zero d within = omega arith
turns_within (t ∷ ts) (suc i) d within = let rest = turns_within ts i d (omega (arith, within)) in omega (arith, rest)

pub turns_more : (ts : List (List Record)) (i : ℕ) (d : List Record) → i < length ts → turns_of (drop i ts) ≡ length (get_or ts i d) ∷ turns_of (drop (i + 1) ts)
turns_more ts i d within = ap turns_of (drop_more ts i d within)

-- a hart more
pub turn_more : (ts : List (List Record)) (i : ℕ) (items after : List ℕ) (x : ℕ) (t : List Record) → i < length ts → t ≡ get_or ts i t → x ≡ length t → after ≡ items ++ x ∷ [] → items ++ turns_of (drop i ts) ≡ turns_of ts
    → after ++ turns_of (drop (i + 1) ts) ≡ turns_of ts
turn_more ts i items after x t within t_is x_is after_is was =
    let rest : List ℕ = turns_of (drop (i + 1) ts) in
    ap (λ (a : List ℕ). a ++ rest) after_is ∙ append_assoc items (x ∷ []) rest ∙ ap (λ (n : ℕ). items ++ n ∷ rest) (x_is ∙ ap (λ (u : List Record). length u) t_is) ∙ ap (λ (r : List ℕ). items ++ r) (sym (turns_more ts i t within)) ∙ was

pub turns_all : (ts : List (List Record)) (i : ℕ) (items : List ℕ) → length ts ≤ i → items ++ turns_of (drop i ts) ≡ turns_of ts → items ≡ turns_of ts
turns_all ts i items end was = sym (append-nil items) ∙ ap (λ (r : List (List Record)). items ++ turns_of r) (sym (drop_all i ts end)) ∙ was

-- the turns of one hart
pub turns_at : (ts : List (List Record)) (k : ℕ) → slice_index (turns_of ts) k ≡ length (slice_index_or ts k [])
turns_at [] k = refl
turns_at (t ∷ ts) zero = refl
turns_at (t ∷ ts) (suc k) = turns_at ts k

-- ---- a valid certificate

-- the hart's turn comes as often as it has records
turns_taken : TurnsAreTaken → (number : ℕ) (c : Cert) (k : ℕ) → times k (drawn_turns number c) ≡ length (trace_of c k)
turns_taken taken number c k = taken number (turns_of c.traces) k ∙ turns_at c.traces k

pub kept : TurnsAreTaken → ((c : Cert) → IsSound c → AgreesWith c (first_system c)) → (number : ℕ) (c : Cert) → IsValid c → IsFaithful c → Keeps c (first_system c) (drawn_turns number c)
kept taken agreed number c valid faithful =
    faithful (first_system c) (drawn_turns number c) (agreed c valid.sound) (λ k. let n = turns_taken taken number c k in omega (arith, n))

pub whole_records : TurnsAreTaken → (number : ℕ) (c : Cert) → Keeps c (first_system c) (drawn_turns number c) → (k : ℕ) → of_hart k (drawn_run number c).events ≡ trace_of c k
whole_records taken number c keeps k =
    keeps.records k ∙ take_all (times k (drawn_turns number c)) (trace_of c k) (let n = turns_taken taken number c k in omega (arith, n))

-- a whole run stops at no hart
pub no_stop : (number : ℕ) (c : Cert) → (drawn_run number c).whole ≡ true → run_text number c ≡ events_text (drawn_run number c).events None
no_stop number c whole = ap (λ b. events_text (drawn_run number c).events (if b then None else Some (slice_index (drawn_turns number c) (length (drawn_run number c).events)))) whole

-- ---- another template that says the same

abbrev in_ram : Cert → Template → List Region → Cert
in_ram c t r = with_template c (record t { ram = r })

pub run_same : (number : ℕ) (c : Cert) (t : Template) → c.template.ram ≡ t.ram → run_text number c ≡ run_text number (with_template c t)
run_same number c t ram = ap (λ (r : List Region). run_text number (in_ram c t r)) ram

pub events_same : (number : ℕ) (c : Cert) (t : Template) → c.template.ram ≡ t.ram → events_text (drawn_run number c).events None ≡ events_text (drawn_run number (with_template c t)).events None
events_same number c t ram = ap (λ (r : List Region). events_text (drawn_run number (in_ram c t r)).events None) ram
