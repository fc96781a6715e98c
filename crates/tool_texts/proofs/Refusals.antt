-- A refusal is an answer, where memory is there to tell it.
use Rattle.std.proofs.Common.{◌≡◌, ◌<◌, ◌⊎◌, inl, inr, List, ℕ, [], length, ap, Result, Ok, Err, arith}
use Rattle.std.specs.Prelude.{IfOk}
use Rattle.tool_words.specs.declared.command.Effort.{Effort}
use Rattle.tool_texts.specs.declared.answer.Answer.{Answer}
use Rattle.tool_texts.specs.declared.error.OutOfMemory.{OutOfMemory}
use Rattle.tool_texts.specs.Answers.{number_of}
use Rattle.tool_texts.specs.Tests.{IsRefusal}

pub refusal_answers : (Made : Answer → Type 0) (effort : Effort) (text : List ℕ) (result : Result Answer OutOfMemory) → IfOk result (λ a. a.out.items ≡ [])
    → IfOk result (λ a. IsRefusal effort text (number_of a.status) a.report.items)
    → IfOk result (λ a. Made a ⊎ ((a.out.items ≡ []) × IsRefusal effort text (number_of a.status) a.report.items))
refusal_answers Made effort text (Ok a) out line = inr (out, line)
refusal_answers Made effort text (Err e) out line = tt

-- the middle one of three answers
pub middle_answers : (First Middle Last : Answer → Type 0) (result : Result Answer OutOfMemory) → IfOk result Middle → IfOk result (λ a. First a ⊎ (Middle a ⊎ Last a))
middle_answers First Middle Last (Ok a) is = inr (inl is)
middle_answers First Middle Last (Err e) is = tt

-- an empty text fits into the room of a sink
pub empty_short : (First Last : Answer → Type 0) (result : Result Answer OutOfMemory) → IfOk result (λ a. First a × (a.out.items ≡ []) × Last a) → IfOk result (λ a. length a.out.items < 16777216)
empty_short First Last (Ok a) is = omega (arith, ap (λ (b : List ℕ). length b) is.1)
empty_short First Last (Err e) is = tt

-- the last one of two answers
pub last_answers : (First Last : Answer → Type 0) (result : Result Answer OutOfMemory) → IfOk result Last → IfOk result (λ a. First a ⊎ Last a)
last_answers First Last (Ok a) is = inr is
last_answers First Last (Err e) is = tt
