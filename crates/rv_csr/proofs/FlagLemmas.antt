-- What the changes of mstatus do to each of its fields.
use Rattle.std.proofs.Common.{◌≡◌, ◌≢◌, ℕ, ◌-◌, ◌*◌, ◌^◌, Bool, true, false, eqb, cond, arith, refl, sym, ap, ◌∙◌}
use Rattle.std.proofs.lemmas.Bool.Decides.{nat_tests}
use Rattle.rv_csr.specs.declared.privilege.Priv.{Priv}
use Rattle.rv_csr.specs.declared.privilege.Priv.TheVariants.{U, S, M}
use Rattle.rv_csr.specs.declared.status.Flag.{Flag}
use Rattle.rv_csr.specs.declared.status.Flag.TheVariants.{Sie, Mie, Spie, Mpie, Spp, Mprv, Sum, Mxr, Tvm, Tsr}
use Rattle.rv_csr.specs.Privilege.{level_of, privilege_at, is_supervisor}
use Rattle.rv_csr.specs.Status.{bit_of, flag_bits, is_set, left_to, mpp_of, spp_of, status_after_mret, status_after_sret, trapped_to_machine, trapped_to_supervisor, with_flag, with_mpp}
use Rattle.rv_csr.specs.Laws.{TrapsToMachine, TrapsToSupervisor, ReturnsFromMachine, ReturnsFromSupervisor, MovesStatus, RestoresStatus}
use Rattle.rv_csr.proofs.Fields.{field, kept_field, new_field}
use Rattle.rv_csr.proofs.LegalStatus.{flag_apart, rest_apart}

abbrev pub is_same : Flag → Flag → Bool
is_same f g = eqb (bit_of f) (bit_of g)

-- the flag of a bit
abbrev flag_at : ℕ → Flag
flag_at i = cond (eqb i 1) Sie (cond (eqb i 3) Mie (cond (eqb i 5) Spie (cond (eqb i 7) Mpie (cond (eqb i 8) Spp (cond (eqb i 17) Mprv (cond (eqb i 18) Sum (cond (eqb i 19) Mxr (cond (eqb i 20) Tvm Tsr))))))))

at_bit : (f : Flag) → flag_at (bit_of f) ≡ f
at_bit Sie = refl
at_bit _ = refl

eqb_false : (a b : ℕ) → (a ≡ b → ⊥) → eqb a b ≡ false
eqb_false a b k = grind (arith, nat_tests)

not_same : (f g : Flag) → f ≢ g → is_same f g ≡ false
not_same f g h = eqb_false _ _ (λ e. h (sym (at_bit f) ∙ ap flag_at e ∙ at_bit g))

self_same : (f : Flag) → is_same f f ≡ true
self_same Sie = refl
self_same _ = refl

-- where the bits of the masks lie
bits_of_pair : (f g : Flag) → (field (bit_of f) 1 (2 ^ 32 - 1 - 2 ^ bit_of g) ≡ cond (is_same f g) 0 1) × (field (bit_of f) 1 (2 ^ bit_of g) ≡ cond (is_same f g) 1 0)
bits_of_pair Sie Sie = (refl, refl)
bits_of_pair Sie _ = (refl, refl)
bits_of_pair Mie Sie = (refl, refl)
bits_of_pair Mie _ = (refl, refl)
bits_of_pair Spie Sie = (refl, refl)
bits_of_pair Spie _ = (refl, refl)
bits_of_pair Mpie Sie = (refl, refl)
bits_of_pair Mpie _ = (refl, refl)
bits_of_pair Spp Sie = (refl, refl)
bits_of_pair Spp _ = (refl, refl)
bits_of_pair Mprv Sie = (refl, refl)
bits_of_pair Mprv _ = (refl, refl)
bits_of_pair Sum Sie = (refl, refl)
bits_of_pair Sum _ = (refl, refl)
bits_of_pair Mxr Sie = (refl, refl)
bits_of_pair Mxr _ = (refl, refl)
bits_of_pair Tvm Sie = (refl, refl)
bits_of_pair Tvm _ = (refl, refl)
bits_of_pair Tsr Sie = (refl, refl)
bits_of_pair Tsr _ = (refl, refl)

zero_bit : (f : Flag) → field (bit_of f) 1 0 ≡ 0
zero_bit Sie = refl
zero_bit _ = refl

mpp_rest : (f : Flag) → field (bit_of f) 1 (2 ^ 32 - 1 - 3 * 2 ^ 11) ≡ 1
mpp_rest Sie = refl
mpp_rest _ = refl

mpp_bit : (p : Priv) (f : Flag) → field (bit_of f) 1 (level_of p * 2 ^ 11) ≡ 0
mpp_bit U Sie = refl
mpp_bit U _ = refl
mpp_bit S Sie = refl
mpp_bit S _ = refl
mpp_bit M Sie = refl
mpp_bit M _ = refl

-- a flag that is written, and the others
pub flag_same : (f : Flag) (on : Bool) (n : ℕ) → is_set f (with_flag f on n) ≡ on
flag_same f true n =
    let rest : field (bit_of f) 1 (2 ^ 32 - 1 - 2 ^ bit_of f) ≡ 0 = (bits_of_pair f f).0 ∙ ap (λ (b : Bool). cond b 0 1) (self_same f) in
    let own : field (bit_of f) 1 (2 ^ bit_of f) ≡ 1 = (bits_of_pair f f).1 ∙ ap (λ (b : Bool). cond b 1 0) (self_same f) in
    ap (λ (m : ℕ). eqb m 1) (new_field (bit_of f) 1 (2 ^ bit_of f) n (2 ^ bit_of f) rest ∙ own)
flag_same f false n =
    let rest : field (bit_of f) 1 (2 ^ 32 - 1 - 2 ^ bit_of f) ≡ 0 = (bits_of_pair f f).0 ∙ ap (λ (b : Bool). cond b 0 1) (self_same f) in
    ap (λ (m : ℕ). eqb m 1) (new_field (bit_of f) 1 (2 ^ bit_of f) n 0 rest ∙ zero_bit f)

other_bits : (f g : Flag) (on : Bool) → is_same f g ≡ false → field (bit_of f) 1 (flag_bits g on) ≡ 0
other_bits f g true h = (bits_of_pair f g).1 ∙ ap (λ (b : Bool). cond b 1 0) h
other_bits f g false h = zero_bit f

pub flag_other : (f g : Flag) (on : Bool) (n : ℕ) → is_same f g ≡ false → is_set f (with_flag g on n) ≡ is_set f n
flag_other f g on n h =
    let rest : field (bit_of f) 1 (2 ^ 32 - 1 - 2 ^ bit_of g) ≡ 1 = (bits_of_pair f g).0 ∙ ap (λ (b : Bool). cond b 0 1) h in
    ap (λ (m : ℕ). eqb m 1) (kept_field (bit_of f) 1 (2 ^ bit_of g) n (flag_bits g on) rest (other_bits f g on h))

flag_apart_from : (f g : Flag) (on : Bool) (n : ℕ) → f ≢ g → is_set f (with_flag g on n) ≡ is_set f n
flag_apart_from f g on n h = flag_other f g on n (not_same f g h)

-- MPP, and the flags where MPP is written
pub flag_mpp : (f : Flag) (p : Priv) (n : ℕ) → is_set f (with_mpp p n) ≡ is_set f n
flag_mpp f p n = ap (λ (m : ℕ). eqb m 1) (kept_field (bit_of f) 1 (3 * 2 ^ 11) n (level_of p * 2 ^ 11) (mpp_rest f) (mpp_bit p f))

mpp_same : (p : Priv) (n : ℕ) → mpp_of (with_mpp p n) ≡ p
mpp_same U n = ap privilege_at (new_field 11 2 (3 * 2 ^ 11) n 0 refl)
mpp_same S n = ap privilege_at (new_field 11 2 (3 * 2 ^ 11) n (1 * 2 ^ 11) refl)
mpp_same M n = ap privilege_at (new_field 11 2 (3 * 2 ^ 11) n (3 * 2 ^ 11) refl)

mpp_flag : (g : Flag) (on : Bool) (n : ℕ) → mpp_of (with_flag g on n) ≡ mpp_of n
mpp_flag g true n = ap privilege_at (kept_field 11 2 (2 ^ bit_of g) n (2 ^ bit_of g) (rest_apart g) (flag_apart g))
mpp_flag g false n = ap privilege_at (kept_field 11 2 (2 ^ bit_of g) n 0 (rest_apart g) refl)

traps_to_machine : (from : Priv) (n : ℕ) → TrapsToMachine from n (trapped_to_machine from n)
traps_to_machine from n =
    let saved : ℕ = with_flag Mpie (is_set Mie n) n in
    let cleared : ℕ = with_flag Mie false saved in
    record {
      mpp = mpp_same from cleared;
      mie = flag_mpp Mie from cleared ∙ flag_same Mie false saved;
      mpie = flag_mpp Mpie from cleared ∙ flag_other Mpie Mie false saved refl ∙ flag_same Mpie (is_set Mie n) n;
      others = λ f h k. flag_mpp f from cleared ∙ flag_apart_from f Mie false saved h ∙ flag_apart_from f Mpie (is_set Mie n) n k;
    }

supervisor_or_user : (from : Priv) → from ≢ M → cond (is_supervisor from) S U ≡ from
supervisor_or_user U h = refl
supervisor_or_user S h = refl
supervisor_or_user M h = absurd (h refl)

traps_to_supervisor : (from : Priv) (n : ℕ) → TrapsToSupervisor from n (trapped_to_supervisor from n)
traps_to_supervisor from n =
    let saved : ℕ = with_flag Spie (is_set Sie n) n in
    let cleared : ℕ = with_flag Sie false saved in
    let spp : is_set Spp (with_flag Spp (is_supervisor from) cleared) ≡ is_supervisor from = flag_same Spp (is_supervisor from) cleared in
    record {
      spp = λ h. ap (λ (b : Bool). cond b S U) spp ∙ supervisor_or_user from h;
      sie = flag_other Sie Spp (is_supervisor from) cleared refl ∙ flag_same Sie false saved;
      spie = flag_other Spie Spp (is_supervisor from) cleared refl ∙ flag_other Spie Sie false saved refl ∙ flag_same Spie (is_set Sie n) n;
      mpp = mpp_flag Spp (is_supervisor from) cleared ∙ mpp_flag Sie false saved ∙ mpp_flag Spie (is_set Sie n) n;
      others = λ f h k l. flag_apart_from f Spp (is_supervisor from) cleared l ∙ flag_apart_from f Sie false saved h ∙ flag_apart_from f Spie (is_set Sie n) n k;
    }

-- what becomes of MPRV, and that nothing else changes
left_flag : (f : Flag) (p : Priv) (n : ℕ) → is_same f Mprv ≡ false → is_set f (left_to p n) ≡ is_set f n
left_flag f U n h = flag_other f Mprv false n h
left_flag f S n h = flag_other f Mprv false n h
left_flag f M n h = refl

left_mpp : (p : Priv) (n : ℕ) → mpp_of (left_to p n) ≡ mpp_of n
left_mpp U n = mpp_flag Mprv false n
left_mpp S n = mpp_flag Mprv false n
left_mpp M n = refl

left_below : (p : Priv) (n : ℕ) → p ≢ M → is_set Mprv (left_to p n) ≡ false
left_below U n h = flag_same Mprv false n
left_below S n h = flag_same Mprv false n
left_below M n h = absurd (h refl)

left_in_machine : (p : Priv) (n : ℕ) → p ≡ M → is_set Mprv (left_to p n) ≡ is_set Mprv n
left_in_machine U n h = absurd cc
left_in_machine S n h = absurd cc
left_in_machine M n h = refl

returns_from_machine : (n : ℕ) → ReturnsFromMachine n (status_after_mret n)
returns_from_machine n =
    let enabled : ℕ = with_flag Mie (is_set Mpie n) n in
    let saved : ℕ = with_flag Mpie true enabled in
    let back : ℕ = with_mpp U saved in
    let to : Priv = mpp_of n in
    record {
      mie = left_flag Mie to back refl ∙ flag_mpp Mie U saved ∙ flag_other Mie Mpie true enabled refl ∙ flag_same Mie (is_set Mpie n) n;
      mpie = left_flag Mpie to back refl ∙ flag_mpp Mpie U saved ∙ flag_same Mpie true enabled;
      mpp = left_mpp to back ∙ mpp_same U saved;
      mprv_below = λ h. left_below to back h;
      mprv_kept = λ h. left_in_machine to back h ∙ flag_mpp Mprv U saved ∙ flag_other Mprv Mpie true enabled refl ∙ flag_other Mprv Mie (is_set Mpie n) n refl;
      others = λ f h k l. left_flag f to back (not_same f Mprv l) ∙ flag_mpp f U saved ∙ flag_apart_from f Mpie true enabled k ∙ flag_apart_from f Mie (is_set Mpie n) n h;
    }

below_machine : (b : Bool) → cond b S U ≢ M
below_machine true h = cc
below_machine false h = cc

returns_from_supervisor : (n : ℕ) → ReturnsFromSupervisor n (status_after_sret n)
returns_from_supervisor n =
    let enabled : ℕ = with_flag Sie (is_set Spie n) n in
    let saved : ℕ = with_flag Spie true enabled in
    let back : ℕ = with_flag Spp false saved in
    let to : Priv = spp_of n in
    record {
      sie = left_flag Sie to back refl ∙ flag_other Sie Spp false saved refl ∙ flag_other Sie Spie true enabled refl ∙ flag_same Sie (is_set Spie n) n;
      spie = left_flag Spie to back refl ∙ flag_other Spie Spp false saved refl ∙ flag_same Spie true enabled;
      spp = ap (λ (b : Bool). cond b S U) (left_flag Spp to back refl ∙ flag_same Spp false saved);
      mprv = left_below to back (below_machine (is_set Spp n));
      mpp = left_mpp to back ∙ mpp_flag Spp false saved ∙ mpp_flag Spie true enabled ∙ mpp_flag Sie (is_set Spie n) n;
      others = λ f h k l m. left_flag f to back (not_same f Mprv m) ∙ flag_apart_from f Spp false saved l ∙ flag_apart_from f Spie true enabled k ∙ flag_apart_from f Sie (is_set Spie n) n h;
    }

pub moves_status : MovesStatus
moves_status from n = (traps_to_machine from n, traps_to_supervisor from n)

pub restores_status : RestoresStatus
restores_status n = (returns_from_machine n, returns_from_supervisor n)
