-- What is known while a response is received over several polls.
use Rattle.std.proofs.Common.{◌≡◌, ◌∙◌, ℕ, ◌+◌, ◌≤◌, ◌==◌, List, [], ◌∷◌, ◌++◌, length, Bool, false, Option, None, Result, Err, refl, ap, sym, subst, arith, append-nil, append_assoc, length-append}
use Rattle.gw_exchange.proofs.Limits.{need_few, need_unended, nothing_yet}
use Rattle.gw_exchange.specs.Exchanged.{Comes, exchanged}
use Rattle.gw_exchange.specs.declared.fault.ExchangeFault.{ExchangeFault}
use Rattle.gw_exchange.specs.declared.fault.ExchangeFault.TheVariants.{Backend}
use Rattle.gw_link.specs.Exchanges.{Exchange, Receives}
use Rattle.gw_link.specs.Pieces.{Keeps}
use Rattle.gw_replies.specs.Replies.{StandsFor as ReaderStandsFor}
use Rattle.gw_replies.specs.declared.fault.BackendFault.TheVariants.{Receive}
use Rattle.gw_replies.specs.declared.reader.ReplyReader.{ReplyReader}
use Rattle.gw_replies.specs.model.Responses.{Response, ResponseOf, a_need}
use Rattle.gw_poll_exchange.specs.Polled.{Reads, ReadsOn, ReadsTo, TellsMore, TellsOn}
use Rattle.gw_poll_exchange.proofs.Telling.{given_on, kept_on, on_then}

-- So many bytes more were given so far.
abbrev pub IsReading : ReplyReader → Bool → List ℕ → ℕ → Option (List Exchange) → Option (List Exchange) → Type 0
IsReading reader head given count before after = (r : ReadsOn reader head given before after) × (count ≡ length r.more)

-- Nothing more was given yet.
pub begins : (reader : ReplyReader) (head : Bool) (given : List ℕ) (told : Option (List Exchange)) → Reads reader head given → IsReading reader head given 0 told told
begins reader head given told reads = (
  record {
    more = [];
    reads = subst (Reads reader head) (sym (append-nil given)) reads;
    told = λ to sent. subst (λ (l : List ℕ). TellsOn (exchanged to sent given false ∷ []) (exchanged to sent l false ∷ []) told told) (sym (append-nil given)) (λ earlier is. is);
  },
  refl,
)

-- A piece was given.
pub given_more : (given given' piece : List ℕ) (first middle now : Option (List Exchange)) → TellsMore given given' false first middle → Receives middle piece now
    → TellsMore given (given' ++ piece) (length piece == 0) first now
given_more given given' piece first middle now told receives = λ to sent.
    on_then (exchanged to sent given false ∷ []) (exchanged to sent given' false ∷ []) (exchanged to sent (given' ++ piece) (length piece == 0) ∷ []) first middle now (told to sent)
    (given_on (exchanged to sent given' false) piece middle now receives)

-- A piece behind which more bytes are needed isn't the end.
pub reads_on : (reader reader' : ReplyReader) (head : Bool) (given : List ℕ) (count : ℕ) (piece : List ℕ) (first middle now : Option (List Exchange))
    → (i : IsReading reader head given count first middle) → ReaderStandsFor head reader' ((given ++ i.0.more) ++ piece) None → reader'.over ≡ (length piece == 0)
    → ResponseOf head ((given ++ i.0.more) ++ piece) (length piece == 0) a_need → Receives middle piece now
    → IsReading reader' head given (count + length piece) first now
reads_on reader reader' head given count piece first middle now i stands over need receives =
    let unended : (length piece == 0) ≡ false = need_unended need refl in
    let both : (given ++ i.0.more) ++ piece ≡ given ++ (i.0.more ++ piece) = append_assoc given i.0.more piece in
    let told : TellsMore given ((given ++ i.0.more) ++ piece) (length piece == 0) first now = given_more given (given ++ i.0.more) piece first middle now i.0.told receives in (
      record {
        more = i.0.more ++ piece;
        reads = subst (Reads reader' head) both (record {
          stands = stands;
          unended = over ∙ unended;
          need = subst (λ (ended : Bool). ResponseOf head ((given ++ i.0.more) ++ piece) ended a_need) unended need;
        });
        told = subst (λ (l : List ℕ). TellsMore given l false first now) both
            (subst (λ (ended : Bool). TellsMore given ((given ++ i.0.more) ++ piece) ended first now) unended told);
      },
      omega (arith, i.1, length-append i.0.more piece),
    )

-- A piece came that comes to a result with those before it.
pub reads_to : (reader : ReplyReader) (head : Bool) (given : List ℕ) (count : ℕ) (piece : List ℕ) (first middle now : Option (List Exchange)) (result : Result Response ExchangeFault)
    → (i : IsReading reader head given count first middle) → Receives middle piece now → length piece ≤ 8192
    → Comes head ((given ++ i.0.more) ++ piece) (length piece == 0) result → ReadsTo head given first now result
reads_to reader head given count piece first middle now result i receives small comes =
    let both : (given ++ i.0.more) ++ piece ≡ given ++ (i.0.more ++ piece) = append_assoc given i.0.more piece in
    record {
      more = i.0.more ++ piece;
      ended = length piece == 0;
      came = subst (λ (l : List ℕ). Comes head l (length piece == 0) result) both comes;
      few = omega (arith, need_few head (given ++ i.0.more) false i.0.reads.need, length-append (given ++ i.0.more) piece, ap length both, small);
      told = subst (λ (l : List ℕ). TellsMore given l (length piece == 0) first now) both (given_more given (given ++ i.0.more) piece first middle now i.0.told receives);
    }

-- What stays is told as it was.
pub told_kept : (given given' : List ℕ) (first middle now : Option (List Exchange)) → TellsMore given given' false first middle → Keeps middle now → TellsMore given given' false first now
told_kept given given' first middle now told keeps = λ to sent.
    on_then (exchanged to sent given false ∷ []) (exchanged to sent given' false ∷ []) (exchanged to sent given' false ∷ []) first middle now (told to sent)
    (kept_on (exchanged to sent given' false ∷ []) middle now keeps)

-- No piece came, since a `receive` failed.
pub reads_failed : (reader : ReplyReader) (head : Bool) (given : List ℕ) (count : ℕ) (first middle now : Option (List Exchange))
    → IsReading reader head given count first middle → Keeps middle now → ReadsTo head given first now (Err (Backend Receive))
reads_failed reader head given count first middle now i keeps = record {
  more = i.0.more;
  ended = false;
  came = (refl, i.0.reads.need);
  few = omega (arith, need_few head (given ++ i.0.more) false i.0.reads.need);
  told = told_kept given (given ++ i.0.more) first middle now i.0.told keeps;
}

-- No piece came yet, since the upstream isn't ready.
pub reads_waits : (reader : ReplyReader) (head : Bool) (given : List ℕ) (count : ℕ) (first middle now : Option (List Exchange))
    → IsReading reader head given count first middle → Keeps middle now → ReadsOn reader head given first now
reads_waits reader head given count first middle now i keeps = record {
  more = i.0.more;
  reads = i.0.reads;
  told = told_kept given (given ++ i.0.more) first middle now i.0.told keeps;
}

-- A new reader was given nothing.
pub reads_nothing : (reader : ReplyReader) (head : Bool) → ReaderStandsFor head reader [] None → reader.over ≡ false → Reads reader head []
reads_nothing reader head stands unended = record { stands = stands; unended = unended; need = nothing_yet head }
