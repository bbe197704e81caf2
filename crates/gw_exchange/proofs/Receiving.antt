-- What is known while a response is received.
use Rattle.std.proofs.Common.{◌≡◌, ◌∙◌, ℕ, zero, suc, ◌<◌, ◌≤◌, ◌==◌, List, [], ◌∷◌, ◌++◌, length, Bool, true, false, Option, Some, None, IfSome, Result, Err, refl, subst, arith, length-append}
use Rattle.std.proofs.lemmas.Bool.Decides.{nat_tests}
use Rattle.gw_link.specs.Exchanges.{Exchange, Receives}
use Rattle.gw_link.specs.Pieces.{Keeps}
use Rattle.gw_link.proofs.ExchangeLemmas.{Tells-receives}
use Rattle.gw_replies.specs.declared.fault.BackendFault.TheVariants.{Receive}
use Rattle.gw_replies.specs.model.Responses.{Outcome, Response, a_need, ResponseOf}
use Rattle.gw_replies.specs.Replies.{StandsFor}
use Rattle.gw_replies.specs.declared.reader.ReplyReader.{ReplyReader}
use Rattle.gw_exchange.specs.declared.fault.ExchangeFault.{ExchangeFault}
use Rattle.gw_exchange.specs.declared.fault.ExchangeFault.TheVariants.{Backend}
use Rattle.gw_exchange.specs.Exchanged.{exchanged, Comes, ComesTo, Received, TellsGiven}
use Rattle.gw_exchange.proofs.Ending.{Tells-keeps}
use Rattle.gw_exchange.proofs.Limits.{need_few, need_unended, nothing_yet}

-- So many bytes came, these, of which the reader knows, and they are no whole response.
pub record IsReceiving (head : Bool) (reader : ReplyReader) (count : ℕ) (first now : Option (List Exchange)) (given : List ℕ) : Type 0 where
  pub stands : StandsFor head reader given None
  pub unended : reader.over ≡ false
  pub counted : count ≡ length given
  pub need : ResponseOf head given false a_need
  pub told : TellsGiven first given false now

-- Nothing came yet.
pub begins : (head : Bool) (reader : ReplyReader) (first : Option (List Exchange)) → StandsFor head reader [] None → reader.over ≡ false → IsReceiving head reader 0 first first []
begins head reader first stands unended = record {
  stands = stands;
  unended = unended;
  counted = refl;
  need = nothing_yet head;
  told = λ before to sent tells. tells;
}

-- A piece was given.
pub more_given : (first middle now : Option (List Exchange)) (given piece : List ℕ) → TellsGiven first given false middle → Receives middle piece now → TellsGiven first (given ++ piece) (length piece == 0) now
more_given first middle now given piece told receives = λ before to sent tells.
    Tells-receives before middle now (exchanged to sent given false) piece (told before to sent tells) receives

-- A piece behind which more bytes are needed isn't the end.
pub goes_on : (head : Bool) (reader : ReplyReader) (count : ℕ) (first now : Option (List Exchange)) (given piece : List ℕ)
    → StandsFor head reader (given ++ piece) None → reader.over ≡ (length piece == 0) → count ≡ length (given ++ piece)
    → ResponseOf head (given ++ piece) (length piece == 0) a_need → TellsGiven first (given ++ piece) (length piece == 0) now
    → IsReceiving head reader count first now (given ++ piece)
goes_on head reader count first now given piece stands over counted need told =
    let unended : (length piece == 0) ≡ false = need_unended need refl in
    record {
      stands = stands;
      unended = over ∙ unended;
      counted = counted;
      need = subst (λ (ended : Bool). ResponseOf head (given ++ piece) ended a_need) unended need;
      told = subst (λ (ended : Bool). TellsGiven first (given ++ piece) ended now) unended told;
    }

-- Such a piece has a byte, and few bytes came with it.
pub few_on : (head : Bool) (given piece : List ℕ) → ResponseOf head (given ++ piece) (length piece == 0) a_need → (0 < length piece) × (length (given ++ piece) ≤ 67108864)
few_on head given piece need = (some (length piece) (need_unended need refl), need_few head (given ++ piece) (length piece == 0) need)
  where
    some : (n : ℕ) → (n == 0) ≡ false → 0 < n
    some zero is = absurd (cc)
    some (suc n) is = omega arith

-- A piece came that comes to a result with those before it.
pub received_more : (head : Bool) (reader : ReplyReader) (count : ℕ) (first middle now : Option (List Exchange)) (given piece : List ℕ) (result : Result Response ExchangeFault)
    → IsReceiving head reader count first middle given → Receives middle piece now → length piece ≤ 8192
    → Comes head (given ++ piece) (length piece == 0) result → Received head first now result
received_more head reader count first middle now given piece result is receives small comes = (
  given ++ piece,
  (
    length piece == 0,
    (
      comes,
      omega (arith, need_few head given false is.need, length-append given piece, small),
      more_given first middle now given piece is.told receives,
    ),
  ),
)

-- No piece came, since a `receive` failed.
pub received_failed : (head : Bool) (reader : ReplyReader) (count : ℕ) (first middle now : Option (List Exchange)) (given : List ℕ)
    → IsReceiving head reader count first middle given → Keeps middle now → Received head first now (Err (Backend Receive))
received_failed head reader count first middle now given is keeps = (
  given,
  (
    false,
    (
      (refl, is.need),
      omega (arith, need_few head given false is.need),
      λ before to sent tells. Tells-keeps before middle now (exchanged to sent given false) (is.told before to sent tells) keeps,
    ),
  ),
)

-- What a reader gave is what the bytes come to, whatever bytes come behind them.
pub settled : (head : Bool) (reader : ReplyReader) (bytes : List ℕ) (outcome : Option Outcome) → StandsFor head reader bytes outcome
    → IfSome outcome (ComesTo head bytes reader.over)
settled head reader bytes None stands = tt
settled head reader bytes (Some outcome) stands = stands.1

-- A list without items is empty.
pub empty_of : (xs : List ℕ) → (length xs == 0) ≡ true → xs ≡ []
empty_of [] is = refl
empty_of (x ∷ xs) is = let none : ⊥ = grind (arith, nat_tests) in absurd none
