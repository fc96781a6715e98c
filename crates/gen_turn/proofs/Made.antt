-- What is made of a template, by what a search found.
use Rattle.std.proofs.Common.{◌≡◌, ℕ, ◌*◌, length, sym, ap, ◌∙◌, subst}
use Rattle.tpl_ast.specs.States.{is_in_ram}
use Rattle.tpl_ast.specs.declared.template.Template.{Template}
use Rattle.tpl_admit.specs.declared.certificate.Cert.{Cert}
use Rattle.tpl_lang.specs.Parsing.{Parses}
use Rattle.rv_system.specs.Faithfulness.{IsFaithful}
use Rattle.tpl_admit.specs.Validity.{IsSound}
use Rattle.tpl_admit.specs.WellFormed.{IsWellFormed}
use Rattle.rv_mem.specs.Ram.{in_ram}
use Rattle.part_state.specs.State.{Test, here, whole}
use Rattle.part_state.specs.Told.{FitsFile, Tells}
use Rattle.gen_search.specs.declared.searching.Answer.TheVariants as answers
use Rattle.gen_search.specs.Answers.{AnswerIs}
use Rattle.gen_search.specs.Search.{Done, NoTest, SearchResult}
use Rattle.gen_turn.specs.declared.making.Found.{Found}
use Rattle.gen_turn.specs.Laws.{DoneTestsAreAdmitted, DoneTestsFitFiles}
use Rattle.gen_turn.specs.Generating.{Comes, IsFound, IsGivenUp, IsOfStart, IsOfTest}
use Rattle.gen_turn.specs.Rules.{Shown, shown}
use Rattle.gen_turn.proofs.Ending.{comes_keep, own, walks_keep}

module _ (t : Template) (seed nodes turns : ℕ) (f : Found) (is : IsFound t seed nodes turns f) where
  -- the test has the template's RAM and as many harts
  record IsOfTemplate (now : Test) : Type 0 where
    harts : length t.harts ≡ length now.harts
    ram : (n : ℕ) → is_in_ram t.ram (n * 4) ≡ in_ram now.ram n

  kept : (r : SearchResult Shown) → Comes t seed nodes turns r → (last : Shown) → AnswerIs r last answers.Done → IsOfTemplate last.now
  kept (Done end tally) comes last same =
      let stays : IsOfStart (shown t nodes comes.first) end = comes_keep (shown t nodes comes.first) turns comes.searches.2 (walks_keep (shown t nodes comes.first) turns comes.searches.1 (own (shown t nodes comes.first) turns)) in
      subst (λ (s : Shown). IsOfTemplate s.now) same (record {
        harts = sym (stays.harts ∙ comes.begun.count);
        ram = λ n. sym (ap (λ rs. in_ram rs n) stays.ram ∙ comes.begun.ram n);
      })
  kept (NoTest tally) comes last same = absurd same

  of_template : f.answer ≡ answers.Done → IsOfTemplate f.part.now
  of_template done = subst IsOfTemplate is.now (kept is.result is.comes is.last (subst (AnswerIs is.result is.last) done is.answer))

  pub same_harts : f.answer ≡ answers.Done → length t.harts ≡ length f.part.now.harts
  same_harts done = (of_template done).harts

  pub same_ram : f.answer ≡ answers.Done → (n : ℕ) → is_in_ram t.ram (n * 4) ≡ in_ram f.part.now.ram n
  same_ram done = (of_template done).ram

  module _ (c : Cert) (parses : Parses t.text t) (admitted : DoneTestsAreAdmitted) (fits : DoneTestsFitFiles) (always : (c : Cert) → IsSound c → IsFaithful c) (tells : Tells t (here f.part) c) (sound : IsSound c)
      (well_formed : FitsFile c → IsWellFormed c) where
    by_result : (r : SearchResult Shown) → Comes t seed nodes turns r → AnswerIs r is.last answers.Done → IsOfTest t seed nodes turns c
    by_result (Done end tally) comes same =
        let comes_so : Comes t seed nodes turns (Done is.last tally) = subst (λ (s : Shown). Comes t seed nodes turns (Done s tally)) same comes in
        let tells_so : Tells t (whole is.last.now) c = subst (λ (test : Test). Tells t (whole test) c) (sym is.now) tells in
        record {
          last = is.last;
          tally = tally;
          comes = comes_so;
          tells = tells_so;
          valid = record { sound = sound; admits = admitted t seed nodes turns is.last tally c parses comes_so tells_so };
          faithful = always c sound;
          well_formed = well_formed (fits t seed nodes turns is.last tally c parses comes_so tells_so);
        }
    by_result (NoTest tally) comes same = absurd same

    pub made : f.answer ≡ answers.Done → IsOfTest t seed nodes turns c
    made done = by_result is.result is.comes (subst (AnswerIs is.result is.last) done is.answer)

  given_up_by : (r : SearchResult Shown) (none_fits spent last_line : ℕ) → Comes t seed nodes turns r → AnswerIs r is.last (answers.GaveUp none_fits spent last_line) → IsGivenUp t seed nodes turns none_fits spent last_line
  given_up_by (Done end tally) none_fits spent last_line comes same = absurd same
  given_up_by (NoTest tally) none_fits spent last_line comes same = record { tally = tally; comes = comes; none_fits_is = sym same.0; spent_is = sym same.1; last_line_is = sym same.2 }

  pub given_up : (none_fits spent last_line : ℕ) → f.answer ≡ answers.GaveUp none_fits spent last_line → IsGivenUp t seed nodes turns none_fits spent last_line
  given_up none_fits spent last_line is_up = given_up_by is.result none_fits spent last_line is.comes (subst (AnswerIs is.result is.last) is_up is.answer)
