-- The rows of addresses are those of leaves and of fetches.
use Rattle.std.proofs.Common.{◌≡◌, ℕ, ◌^◌, ◌<◌, ◌&&◌, List, refl, sym, ap, ◌∙◌, subst, arith}
use Rattle.std.specs.Prelude.{nat_lt}
use Rattle.rv_isa.specs.declared.instruction.Instr.{Instr}
use Rattle.rv_isa.specs.declared.operation.Op.TheVariants.{Lw}
use Rattle.rv_script.specs.declared.place.Place.{Place}
use Rattle.rv_script.specs.declared.place.Place.TheVariants.{Reg, Csr, Word}
use Rattle.rv_script.specs.Lists.{HasItem}
use Rattle.rv_script.specs.Labels.{label_number}
use Rattle.rv_script.specs.Logs.{entry_label, entry_place, answer_told, labelled, new_value, or_given, by_answers}
use Rattle.rv_script.specs.Script.{Label, Label.FetchRoot, Label.FetchSecond, Label.Fetched, Label.FromRs1, Label.FromRs2, Label.FromCsr, Label.DataRoot, Label.DataSecond, Label.DataWord, Label.FromVector}
use Rattle.rv_script.specs.Folds.{Answer.Does, Entry, Teller}
use Rattle.rv_script.proofs.Plays.{numbers_within, play_same, told}
use Rattle.sv_walk.specs.declared.entry.Kind.{Kind}
use Rattle.sv_walk.specs.declared.entry.Kind.TheVariants.{Fetch as ForFetch, Load as ForLoad, Store as ForStore}
use Rattle.sv_walk.specs.declared.entry.View.{View}
use Rattle.sv_walk.specs.Translation.{Reached, root_label, second_label}
use Rattle.sv_walk.proofs.Orders.{translated_between}
use Rattle.addr_rows.specs.Walks.{Walks as RowWalks, end_at, entry_answers, may_be_root, may_be_second, word_address_of as address_of}
use Rattle.addr_rows.specs.Laws.{Always}
use Rattle.rv_hart.specs.Machine.{data_view, fetch_view}
use Rattle.rv_mem.specs.Frames.{in_frames}
use Rattle.leaf_link.specs.Turns.{Turn, is_first_form, is_second_form, may_start, word_address_of}
use Rattle.leaf_link.specs.Values.{given_by}
use Rattle.leaf_link.specs.Reaching.{Walks}
use Rattle.leaf_link.specs.Fetches.{fetch_script}
use Rattle.leaf_link.specs.FetchRows.{FetchRow, FetchWalks, entry_values}
use Rattle.leaf_link.specs.Served.{EntriesAreLet, FetchRowsServe, LoadRowsServe, ServeData, StoreRowsServe, row_at, setting_of}
use Rattle.leaf_link.proofs.Reaching.{in_map, map_in}

-- WHAT MAY BE AN ENTRY
same_address : (place : Place) → word_address_of place ≡ address_of place
same_address (Reg n) = refl
same_address (Csr addr) = refl
same_address (Word addr) = refl

root_rule : (t : Turn) (view : View) (kind : Kind) (i : Instr) (place : Place) (v : ℕ) → may_start t i (root_label kind) place v ≡ may_be_root (setting_of t view kind) place v
root_rule t view ForFetch i place v = ap (λ (n : ℕ). nat_lt v (2 ^ 32) && (in_frames t.tables n && is_first_form t v)) (same_address place)
root_rule t view ForLoad i place v = ap (λ (n : ℕ). nat_lt v (2 ^ 32) && (in_frames t.tables n && is_first_form t v)) (same_address place)
root_rule t view ForStore i place v = ap (λ (n : ℕ). nat_lt v (2 ^ 32) && (in_frames t.tables n && is_first_form t v)) (same_address place)

second_rule : (t : Turn) (view : View) (kind : Kind) (i : Instr) (place : Place) (v : ℕ) → may_start t i (second_label kind) place v ≡ may_be_second (setting_of t view kind) place v
second_rule t view ForFetch i place v = ap (λ (n : ℕ). nat_lt v (2 ^ 32) && (in_frames t.tables n && is_second_form t v)) (same_address place)
second_rule t view ForLoad i place v = ap (λ (n : ℕ). nat_lt v (2 ^ 32) && (in_frames t.tables n && is_second_form t v)) (same_address place)
second_rule t view ForStore i place v = ap (λ (n : ℕ). nat_lt v (2 ^ 32) && (in_frames t.tables n && is_second_form t v)) (same_address place)

-- any instruction, since entries are the same for all
abbrev pub some_instr : Instr
some_instr = record { op = Lw; rd = 0; rs1 = 0; rs2 = 0; imm = 0; csr = 0 }

pub entries_are_let : EntriesAreLet
entries_are_let t view kind = record {
  root_only = λ place v h. sym (root_rule t view kind some_instr place v) ∙ h some_instr;
  root = λ place v h. λ i. root_rule t view kind i place v ∙ h;
  second_only = λ place v h. sym (second_rule t view kind some_instr place v) ∙ h some_instr;
  second = λ place v h. λ i. second_rule t view kind i place v ∙ h;
}

-- LOADS AND STORES
abbrev DataWalks : Turn → Kind → ℕ → ℕ → ℕ → List Entry → Reached → Type 0
DataWalks t kind ea first second log end = RowWalks (setting_of t (data_view t.fixed) kind) t.known (Always (may_start t)) ea first second log end

data_walks : (t : Turn) (kind : Kind) → root_label kind ≡ DataRoot → second_label kind ≡ DataSecond → (ea first second : ℕ) (log : List Entry) (end : Reached) → DataWalks t kind ea first second log end → Walks t kind ea first second log end
data_walks t kind root leaf ea first second log end w = record {
  plays = w.plays;
  may = λ i e j none. w.may_start e j none i;
  coherent = w.coherent;
  first_is = w.first_is ∙ ap (λ (l : Label). new_value t.known (labelled log l)) root;
  second_is = w.second_is ∙ ap (λ (l : Label). new_value t.known (labelled log l)) leaf;
}

walks_data : (t : Turn) (kind : Kind) → root_label kind ≡ DataRoot → second_label kind ≡ DataSecond → (ea first second : ℕ) (log : List Entry) (end : Reached) → Walks t kind ea first second log end → DataWalks t kind ea first second log end
walks_data t kind root leaf ea first second log end w = record {
  plays = w.plays;
  may_start = λ e j none i. w.may i e j none;
  coherent = w.coherent;
  first_is = w.first_is ∙ sym (ap (λ (l : Label). new_value t.known (labelled log l)) root);
  second_is = w.second_is ∙ sym (ap (λ (l : Label). new_value t.known (labelled log l)) leaf);
}

serve_data : (kind : Kind) → root_label kind ≡ DataRoot → second_label kind ≡ DataSecond → ServeData kind
serve_data kind root leaf t pages rows are = record {
  sound = λ row i ea first second less h. let w = are.sound row i ea first second less h in (w.0, data_walks t kind root leaf ea first second w.0 (end_at row.end ea) w.1);
  complete = λ ea first second log end less page w. are.complete ea first second log end less page (walks_data t kind root leaf ea first second log end w);
}

pub load_rows_serve : LoadRowsServe
load_rows_serve = serve_data ForLoad refl refl

pub store_rows_serve : StoreRowsServe
store_rows_serve = serve_data ForStore refl refl

-- FETCHES
abbrev PcWalks : Turn → ℕ → ℕ → List Entry → Reached → Type 0
PcWalks t first second log end = RowWalks (setting_of t (fetch_view t.fixed) ForFetch) t.known (Always (may_start t)) t.fixed.pc first second log end

-- the answers to the two questions of a fetch's translation
same_answer : (first second : ℕ) (l : Label) → label_number l < 2 → given_by (entry_values first second) l ≡ entry_answers first second l
same_answer first second FetchRoot h = refl
same_answer first second FetchSecond h = refl
same_answer first second Fetched h = absurd (omega (arith, h))
same_answer first second FromRs1 h = absurd (omega (arith, h))
same_answer first second FromRs2 h = absurd (omega (arith, h))
same_answer first second FromCsr h = absurd (omega (arith, h))
same_answer first second DataRoot h = absurd (omega (arith, h))
same_answer first second DataSecond h = absurd (omega (arith, h))
same_answer first second DataWord h = absurd (omega (arith, h))
same_answer first second FromVector h = absurd (omega (arith, h))

asks_early : (t : Turn) (tell : Teller) (log : List Entry) (end : Reached) → answer_told tell (fetch_script t) ≡ Does log end → (e : Entry) → HasItem log e → label_number (entry_label e) < 2
asks_early t tell log end h e i = (numbers_within 0 2 (fetch_script t) tell log end (translated_between 0 t.fixed.ram (fetch_view t.fixed) ForFetch t.fixed.pc refl refl) h e i).1

by_given : (t : Turn) (first second : ℕ) (log : List Entry) (end : Reached) → answer_told (by_answers t.known (entry_answers first second)) (fetch_script t) ≡ Does log end
    → answer_told (by_answers t.known (given_by (entry_values first second))) (fetch_script t) ≡ Does log end
by_given t first second log end h =
    let tell : Teller = by_answers t.known (entry_answers first second) in
    play_same (fetch_script t) tell (by_answers t.known (given_by (entry_values first second))) log end h (λ e i.
    ap (λ (v : ℕ). or_given (t.known (entry_place e)) v) (same_answer first second (entry_label e) (asks_early t tell log end h e i)) ∙ told (fetch_script t) tell log end h e i)

pub given_by_entries : (t : Turn) (first second : ℕ) (log : List Entry) (end : Reached) → answer_told (by_answers t.known (given_by (entry_values first second))) (fetch_script t) ≡ Does log end
    → answer_told (by_answers t.known (entry_answers first second)) (fetch_script t) ≡ Does log end
given_by_entries t first second log end h =
    let tell : Teller = by_answers t.known (given_by (entry_values first second)) in
    play_same (fetch_script t) tell (by_answers t.known (entry_answers first second)) log end h (λ e i.
    ap (λ (v : ℕ). or_given (t.known (entry_place e)) v) (sym (same_answer first second (entry_label e) (asks_early t tell log end h e i))) ∙ told (fetch_script t) tell log end h e i)

pc_walks : (t : Turn) (first second : ℕ) (log : List Entry) (end : Reached) → PcWalks t first second log end → FetchWalks t first second log end
pc_walks t first second log end w = record {
  plays = by_given t first second log end w.plays;
  may = λ i e j none. w.may_start e j none i;
  coherent = w.coherent;
  first_is = w.first_is;
  second_is = w.second_is;
}

walks_pc : (t : Turn) (first second : ℕ) (log : List Entry) (end : Reached) → FetchWalks t first second log end → PcWalks t first second log end
walks_pc t first second log end w = record {
  plays = given_by_entries t first second log end w.plays;
  may_start = λ e j none i. w.may i e j none;
  coherent = w.coherent;
  first_is = w.first_is;
  second_is = w.second_is;
}

pub fetch_rows_serve : FetchRowsServe
fetch_rows_serve t pages rows less page are =
    let pc : ℕ = t.fixed.pc in
    record {
      sound = λ row i first second h.
          let m = in_map (row_at pc) rows row i in
          let w = are.sound m.0 m.1 pc first second less (ap (λ (r : FetchRow). r.holds first second) m.2 ∙ h) in
          (w.0, subst (λ (r : FetchRow). FetchWalks t first second w.0 r.end) m.2 (pc_walks t first second w.0 (end_at m.0.end pc) w.1));
      complete = λ first second log end w.
          let r = are.complete pc first second log end less page (walks_pc t first second log end w) in
          (row_at pc r.0, map_in (row_at pc) rows r.0 r.1, r.2, r.3);
    }
