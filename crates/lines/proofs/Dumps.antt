-- The text of an input, by what the decoder answers: the records that it stored are read back whole, so their lines are those of the
-- definition, and the text fits.
use Prim.Native.Nat.{ℕ, ◌*◌, ◌-◌, ◌≤◌}
use mathlib.Core.Path.{◌≡◌, sym, ap, ap₂, ◌∙◌}
use mathlib.Core.List.{List, ◌++◌}
use native.Mathlib.Omega.{arith}
use lib.ListN.{length, take, replicate, length-append}
use lib.Seq.{length-take-le}
use Rattle.io.specs.Counts as io
use Rattle.octets.specs.Octets.{Bytes, over, Put}
use Rattle.octets.proofs.Lists.{over_length}
use Rattle.octets.proofs.Numbers.{be_small}
use Rattle.refusal.specs.Answer.{Refusal, accepted, refused}
use Rattle.rfc6733.specs.Header.{message_length}
use Rattle.rfc6733.specs.Dictionary.{sawp}
use Rattle.record.specs.Record.{Record, record_size, laid}
use Rattle.record.specs.Table.{whole_records}
use Rattle.rfc6733.specs.Decoder.{Message, run_counts, message_records, message_of, decoded}
use Rattle.record.specs.Counts.{Counts}
use Rattle.rfc6733.specs.Dump.{record_lines, first_line, line, lines_text, dump, dump_text, dumped, refusal_text}
use Rattle.rfc6733.proofs.Accepted.{when_accepted}
use Rattle.record.proofs.Layouts.{laid_length}
use Rattle.round_trip.proofs.Whole.{sawp_whole}
use Rattle.record.proofs.Back.{Whole, records_back}
use Rattle.lines.specs.Text.{records_text, message_text}
use Rattle.lines.proofs.Sizes.{records_short, first_short, refusal_short}

-- the text of an input is `text`, and an array of 76,875 bytes has room for it
pub record Text (s text : List ℕ) : Type 0 where
  pub is : dumped s ≡ text
  pub short : length text ≤ 76875

pub text_put : {n : ℕ} {text before after : List ℕ} (s : List ℕ) → length before ≡ 76875 → Text s text → Put n text before after
    → (after ≡ over (dumped s) before) × ((n ≡ length (dumped s)) × io.IsPrefixLen n after)
text_put {n} {text} {before} {after} s size t p =
    let same : length after ≡ length before = ap length p.out_is ∙ over_length text before (omega (arith, t.short)) in
    let within : n ≤ length after = omega (arith, p.size_is, t.short) in
    (rw t.is p.out_is, (rw t.is p.size_is, (within, sym (length-take-le n after within))))

-- the text of an input is that of a message with these counts, whose records are in a table
pub record Stored (s : List ℕ) (c : Counts) (table : List ℕ) : Type 0 where
  pub text_is : Text s (message_text c table)
  pub there : c.records * record_size ≤ length table

module _ (s front : List ℕ) (front_of : front ≡ take 32768 s) where
  pub refused_text : (why : Refusal) → refused why ≡ decoded sawp 64 1024 front → Text s (refusal_text why)
  unfolding dumped dump_text dump
  refused_text why e = record { is = rw (← front_of, ← e); short = omega (arith, refusal_short why) }

  module _ (m : Message) (bytes : Bytes front) (e : decoded sawp 64 1024 front ≡ accepted m) where
    abbrev rs : List Record
    rs = message_records sawp front

    whole : Whole rs
    whole = sawp_whole 64 1024 front m bytes e

    as_many : m.counts.records ≡ length rs
    unfolding message_of run_counts message_records
    as_many = ap (λ (x : Message). x.counts.records) (sym (when_accepted sawp 64 1024 front m e).message_is)

    as_long : m.counts.length ≡ message_length front
    unfolding message_of
    as_long = ap (λ (x : Message). x.counts.length) (sym (when_accepted sawp 64 1024 front m e).message_is)

    pub accepted_text : (table : List ℕ) → table ≡ laid rs ++ replicate (36864 - length (laid rs)) 0 → Stored s m.counts table
    unfolding dumped dump_text dump
    accepted_text table t =
        let a = when_accepted sawp 64 1024 front m e in
        let lines : records_text m.counts.records table ≡ lines_text (record_lines rs) =
        ap (λ (x : List Record). lines_text (record_lines x)) (ap₂ whole_records as_many t ∙ records_back rs _ whole)
        in
        let first = line (first_line m.counts) in
        record {
          text_is =
              record {
                is = rw (← front_of, e) (ap (λ (x : List ℕ). first ++ x) (sym lines));
                short =
                    omega (
                      arith,
                      length-append first (records_text m.counts.records table),
                      ap length lines,
                      records_short rs whole.fits whole.valued,
                      first_short m.counts (omega (arith, as_long, be_small 3 front 1 bytes)) (omega (arith, as_many, a.fits)),
                      a.fits,
                    );
              };
          there =
              omega (arith, as_many, ap length t, length-append (laid rs) (replicate (36864 - length (laid rs)) 0), laid_length rs);
        }
