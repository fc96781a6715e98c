-- Reading the words of the runs one run after the other.
use Rattle.std.proofs.Common.{◌≡◌, ℕ, zero, suc, ◌+◌, ◌*◌, ◌%◌, ◌^◌, ◌≤◌, ◌<◌, true, ltb, leb, eqb, List, [], ◌∷◌, ◌++◌, drop, length, get_or, Some, None, refl, sym, ap, ◌∙◌, append_assoc, arith}
use Rattle.std.proofs.lemmas.List.{append-nil, drop_more, drop_all}
use Rattle.std.proofs.lemmas.Option.{same_Some}
use Rattle.std.specs.declared.option.Option.{Option}
use Rattle.byte_format.specs.declared.error.PieceError.{PieceError}
use Rattle.byte_format.specs.declared.error.PieceError.TheVariants.{Malformed, OutOfMemory}
use Rattle.byte_format.specs.Internal.Readers.{◌>>=◌, Fails, chain_at, with_front}
use Rattle.elf_headers.specs.declared.runs.Run.{Run}
use Rattle.elf_headers.specs.Internal.Checks.{are_runs}
use Rattle.elf_image.specs.Internal.PartReaders.{placed_at, next_address, words_at}
use Rattle.note_items.proofs.Booleans.{at_most, no_then, yes_then}

-- no run ends behind 2 ^ 32
pub run_end : (runs : List Run) (low i : ℕ) (d : Run) → are_runs low runs ≡ true → i < length runs → (get_or runs i d).addr + 4 * (get_or runs i d).words ≤ 2 ^ 32
run_end [] low i d e lt = absurd (omega arith)
run_end (r ∷ rs) low zero d e lt =
    let a = no_then (ltb r.addr low) _ e in
    let b = yes_then (eqb (r.addr % 4) 0) _ a.1 in
    let c = yes_then (ltb 0 r.words) _ b.1 in
    let end = yes_then (leb (r.addr + 4 * r.words) (2 ^ 32)) _ c.1 in
    at_most _ _ end.0
run_end (r ∷ rs) low (suc i) d e lt =
    let a = no_then (ltb r.addr low) _ e in
    let b = yes_then (eqb (r.addr % 4) 0) _ a.1 in
    let c = yes_then (ltb 0 r.words) _ b.1 in
    let end = yes_then (leb (r.addr + 4 * r.words) (2 ^ 32)) _ c.1 in
    run_end rs (r.addr + 4 * r.words + 1) i d end.1 (omega arith)

abbrev Words : Type 0
Words = List (ℕ × ℕ)

regroup_runs : (front ws : Words) (read : Option (Words × List ℕ)) → with_front front (read >>= λ x. Some (ws ++ x.0, x.1)) ≡ with_front (front ++ ws) read
regroup_runs front ws (Some x) = ap (λ (ns : Words). Some (ns, x.1)) (sym (append_assoc front ws x.0))
regroup_runs front ws None = refl

one_run : (front : Words) (rs : List Run) (o : Option (Words × List ℕ)) (new : Words) (after : List ℕ) → with_front front o ≡ Some (new, after)
    → with_front front (o >>= λ ws. words_at rs ws.1 >>= λ more. Some (ws.0 ++ more.0, more.1)) ≡ with_front new (words_at rs after)
one_run front rs None new after e = absurd cc
one_run front rs (Some x) new after e =
    regroup_runs front x.0 (words_at rs x.1) ∙ ap (λ (p : Words × List ℕ). with_front p.0 (words_at rs p.1)) (same_Some (front ++ x.0, x.1) (new, after) e)

pub run_goes_on : (front : Words) (runs : List Run) (i : ℕ) (d : Run) (bytes : List ℕ) (new : Words) (after : List ℕ) (total : Option (Words × List ℕ)) → i < length runs
    → with_front front (chain_at next_address placed_at (get_or runs i d).words (get_or runs i d).addr bytes) ≡ Some (new, after)
    → with_front front (words_at (drop i runs) bytes) ≡ total → with_front new (words_at (drop (i + 1) runs) after) ≡ total
unfolding words_at
run_goes_on front runs i d bytes new after total lt h so_far =
    let e : drop i runs ≡ get_or runs i d ∷ drop (i + 1) runs = drop_more runs i d lt in
    let one = one_run front (drop (i + 1) runs) (chain_at next_address placed_at (get_or runs i d).words (get_or runs i d).addr bytes) new after h in
    sym one ∙ sym (ap (λ (rs : List Run). with_front front (words_at rs bytes)) e) ∙ so_far

no_run : (front : Words) (rs : List Run) (o : Option (Words × List ℕ)) → with_front front o ≡ None
    → with_front front (o >>= λ ws. words_at rs ws.1 >>= λ more. Some (ws.0 ++ more.0, more.1)) ≡ None
no_run front rs None e = refl
no_run front rs (Some x) e = absurd cc

pub run_ends : (e : PieceError) (front : Words) (runs : List Run) (i : ℕ) (d : Run) (bytes : List ℕ) (total : Option (Words × List ℕ)) → i < length runs
    → Fails e (with_front front (chain_at next_address placed_at (get_or runs i d).words (get_or runs i d).addr bytes))
    → with_front front (words_at (drop i runs) bytes) ≡ total → Fails e total
unfolding words_at
run_ends OutOfMemory front runs i d bytes total lt h so_far = tt
run_ends Malformed front runs i d bytes total lt h so_far =
    let e : drop i runs ≡ get_or runs i d ∷ drop (i + 1) runs = drop_more runs i d lt in
    let one = no_run front (drop (i + 1) runs) (chain_at next_address placed_at (get_or runs i d).words (get_or runs i d).addr bytes) h in
    sym so_far ∙ ap (λ (rs : List Run). with_front front (words_at rs bytes)) e ∙ one

pub all_done : (front : Words) (runs : List Run) (i : ℕ) (bytes : List ℕ) (total : Option (Words × List ℕ)) → length runs ≤ i → with_front front (words_at (drop i runs) bytes) ≡ total → total ≡ Some (front, bytes)
unfolding words_at
all_done front runs i bytes total le so_far =
    let one : with_front front (words_at (drop i runs) bytes) ≡ Some (front, bytes) = rw (drop_all i runs le) (ap (λ (ns : Words). Some (ns, bytes)) (append-nil front)) in
    sym so_far ∙ one
