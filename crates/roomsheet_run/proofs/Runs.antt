-- A run writes roomsheet of its input: what was written for what was read, then roomsheet of what is kept and of what is left to read.
--
--   into_..              one answer after another, of a text with more behind it, and the last
--   read_..              what a read puts behind what is kept
--   Going                where a run is, after some reads;  going_start, _read, _answered, _turn: at first, after a read, after an answer, and
--                        after both
-- Assumes nothing.
use native.Mathlib.Omega.{arith}
use Prim.Native.Nat.{ℕ, ◌+◌, ◌≤◌}
use mathlib.Core.Path.{◌≡◌, refl, sym, ap, ◌∙◌}
use mathlib.Core.List.{List, [], ◌++◌, append-nil, append_assoc}
use lib.ListN.{length, take, drop}
use lib.Seq.{take-add, length-take-le, take-append-le}
use borrow.Rule.Slice.PartMut.{put_mid, post_of}
use Rattle.std.proofs.lemmas.List.{drop_at}
use Rattle.std.specs.Prelude.{Option, Some, None, IfSome}
use Rattle.std.specs.Io.KnownBytes.{Appends, Consumes}
use Rattle.definitions.specs.Roomsheet.{Text, roomsheet}
use Rattle.roomsheet_parse.specs.Parts.{up_to}
use Rattle.roomsheet_lines.specs.Answered.{Answered}
use Rattle.roomsheet_lines.proofs.Texts.{answered_none, answered_then}
use Rattle.roomsheet_run.specs.Kept.{KeptLine, ReadSome, AnsweredInto}

appends_none : (a : Option Text) → Appends a a []
appends_none None = tt
appends_none (Some x) = sym (append-nil x)

appends_then : (a b c : Option Text) (u v : Text) → Appends a b u → Appends b c v → Appends a c (u ++ v)
appends_then None b c u v f g = tt
appends_then (Some x) None c u v f g = absurd f
appends_then (Some x) (Some y) None u v f g = absurd g
appends_then (Some x) (Some y) (Some z) u v f g = g ∙ ap (λ (t : Text). t ++ v) f ∙ append_assoc x u v

pub into_none : (t : Text) (a : Option Text) → AnsweredInto t a a t
into_none t a = record { printed = []; written = appends_none a; answered = answered_none t }

pub into_then : (t u v : Text) (a b c : Option Text) → AnsweredInto t a b u → AnsweredInto u b c v → AnsweredInto t a c v
into_then t u v a b c f g =
    record {
      printed = f.printed ++ g.printed;
      written = appends_then a b c f.printed g.printed f.written g.written;
      answered = answered_then t u v f.printed g.printed f.answered g.answered;
    }

into_more : (t u r : Text) (a b : Option Text) → AnsweredInto t a b u → AnsweredInto (t ++ r) a b (u ++ r)
into_more t u r a b f =
    record {
      printed = f.printed;
      written = f.written;
      answered = record {
        whatever = λ later.
            ap roomsheet (append_assoc t r later) ∙ f.answered.whatever (r ++ later)
            ∙ ap (λ (x : Text). f.printed ++ roomsheet x) (sym (append_assoc u r later));
      };
    }

into_last_of : (t u : Text) (a b c : Option Text) → AnsweredInto t a b u → Appends b c (roomsheet u) → Appends a c (roomsheet t)
into_last_of t u a b c f g =
    let all : roomsheet t ≡ f.printed ++ roomsheet u
    = ap roomsheet (sym (append-nil t)) ∙ f.answered.whatever [] ∙ ap (λ (x : Text). f.printed ++ roomsheet x) (append-nil u) in
    rw all (appends_then a b c f.printed (roomsheet u) f.written g)

pub into_last : (known : Option Text) (u : Text) (a b c : Option Text) → IfSome known (λ t. AnsweredInto t a b u) → Appends b c (roomsheet u)
    → IfSome known (λ t. Appends a c (roomsheet t))
into_last None u a b c f g = tt
into_last (Some t) u a b c f g = into_last_of t u a b c f g

pub into_written : (t u v : Text) (a b c : Option Text) → AnsweredInto t a b u → (printed : Text) → Answered u printed v → Appends b c printed → AnsweredInto t a c v
into_written t u v a b c f printed answered written =
    into_then t u v a b c f (record { printed = printed; written = written; answered = answered })

-- ---- a read

pub read_place : (at size count : ℕ) (before place : List ℕ) → at ≤ length before → count ≤ length place → take count (drop at (put_mid at size before place)) ≡ take count place
read_place at size count before place h k =
    ap (take count) (drop_at (take at before) (place ++ post_of at size before) at (length-take-le at before h)) ∙ take-append-le count place (post_of at size before) k

pub read_front : (before after : List ℕ) (kept more : ℕ) → ReadSome before kept more after → take (kept + more) after ≡ take kept before ++ take more (drop kept after)
read_front before after kept more r = take-add kept more after ∙ ap (λ (t : Text). t ++ take more (drop kept after)) r.stays

-- ---- a run

pub record Going (input : Text) (left first now : Option Text) (pending : Text) : Type 0 where
  pub rest : Text
  pub left_is : left ≡ Some rest
  pub into : AnsweredInto input first now (pending ++ rest)

pub going_start : (left a : Option Text) → IfSome left (λ input. Going input left a a [])
going_start None a = tt
going_start (Some input) a = record { rest = input; left_is = refl; into = into_none input a }

module _ (input : Text) (left first now : Option Text) (pending : Text) (g : Going input left first now pending) where
  pub going_read : (later : Option Text) (octets after : Text) → Consumes left later octets → after ≡ pending ++ octets → Going input later first now after
  going_read later octets after r is = go later (rw g.left_is at r)
    where
      go : (l : Option Text) → Consumes (Some g.rest) l octets → Going input l first now after
      go None z = absurd z
      go (Some more) e = record { rest = more; left_is = refl; into = rw (is, append_assoc pending octets more, ← e) g.into }

  pub going_answered : (later : Option Text) (kept : Text) → AnsweredInto pending now later kept → Going input left first later kept
  going_answered later kept a =
      record {
        rest = g.rest;
        left_is = g.left_is;
        into = into_then input (pending ++ g.rest) (kept ++ g.rest) first now later g.into (into_more pending kept g.rest now later a);
      }

-- one turn: a read, and the answers to the lines that it ended
pub going_turn : (known left left1 left2 first now now1 now2 : Option Text) (pending octets after kept : Text)
    → IfSome known (λ input. Going input left first now pending) → Consumes left left1 octets → after ≡ pending ++ octets → now1 ≡ now
    → AnsweredInto after now1 now2 kept → left2 ≡ left1 → IfSome known (λ input. Going input left2 first now2 kept)
going_turn None left left1 left2 first now now1 now2 pending octets after kept g r is same a stays = tt
going_turn (Some input) left left1 left2 first now now1 now2 pending octets after kept g r is same a stays =
    rw stays
    (going_answered input left1 first now after (going_read input left first now pending g left1 octets after r is) now2 kept (rw same at a))

pub kept_start : (input : List ℕ) → KeptLine input 0
unfolding up_to
kept_start input = record { within = omega arith; short = omega arith; unended = refl }
