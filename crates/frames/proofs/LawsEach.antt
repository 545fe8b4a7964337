-- Frames that were answered, and one more.
use Rattle.std.proofs.Common.{◌≡◌, refl, sym, ap, ◌∙◌, List, [], ◌∷◌, ◌++◌, append-nil, append_assoc, ℕ, length, take, Result, Ok, None, Some, subst, length-take-le}
use Rattle.std.specs.Prelude.{Option}
use Rattle.std.proofs.KnownBytes.{Consumes-nil, Consumes-trans, Consumes-kept}
use Rattle.std.specs.Fn.{Mut}
use Rattle.std.proofs.lemmas.Fn.{FoldsTo-push}
use Rattle.std.specs.declared.io.Error.{Error}
use denote.Ref.{Bor, MutBor}
use Rattle.paper.specs.Text.{Bytes}
use Rattle.frames.specs.Frame.{length_of, FrameLeft, FrameTaken, AreFrames, Answered, EachAnswered}

-- a frame behind others
frames_more : (bytes : Bytes) (texts : List Bytes) (line text : Bytes) → AreFrames bytes texts → length_of line ≡ Some (length text)
    → AreFrames (bytes ++ (line ++ text)) (texts ++ (text ∷ []))
frames_more bytes [] line text none e = (line, [], e, ap (λ b. b ++ (line ++ text)) none ∙ ap (λ t. line ++ t) (sym (append-nil text)), refl)
frames_more bytes (t ∷ ts) line text (l, rest, h, is, fs) e = (
  l,
  rest ++ (line ++ text),
  h,
  ap (λ b. b ++ (line ++ text)) is ∙ append_assoc l (t ++ rest) (line ++ text) ∙ ap (λ x. l ++ x) (append_assoc t rest (line ++ text)),
  frames_more rest ts line text fs e,
)

module _ {F W : Type 0} (g : Mut F (MutBor W × (Bor Bytes × Unit {0})) (Result (Unit {0}) Error × (MutBor W × Unit {0}))) where
  pub answered_none : (old : Option Bytes) (p : F × W) → EachAnswered g old old p p
  answered_none old p = record { texts = []; bytes = []; frames = refl; taken = Consumes-nil old; answered = refl }

  pub answered_more : {old mid new : Option Bytes} {p q r : F × W} {n : ℕ} {o : Option ℕ} (before room : List ℕ) → EachAnswered g old mid p q → o ≡ Some n
      → FrameLeft before room (Ok o) → FrameTaken mid new room (Ok o) → Answered g q (take n room) r → EachAnswered g old new p r
  answered_more {old} {mid} {new} {p} {q} {r} {n} {o} before room so is left taken called =
      let (inside, within, kept) = subst (λ x. FrameLeft before room (Ok x)) is left in
      let (line, says, took) = subst (λ x. FrameTaken mid new room (Ok x)) is taken in
      let text = take n room in
      record {
        texts = so.texts ++ (text ∷ []);
        bytes = so.bytes ++ (line ++ text);
        frames = frames_more so.bytes so.texts line text so.frames (says ∙ ap Some (sym (length-take-le n room inside)));
        taken = Consumes-trans old mid new so.bytes (line ++ text) so.taken took;
        answered = FoldsTo-push (Answered g) p so.texts q text r so.answered called;
      }

  pub answered_end : {old mid new : Option Bytes} {p q : F × W} {o : Option ℕ} (room : List ℕ) → EachAnswered g old mid p q → o ≡ None
      → FrameTaken mid new room (Ok o) → EachAnswered g old new p q
  answered_end {old} {mid} {new} {p} {q} {o} room so is taken = record {
    texts = so.texts;
    bytes = so.bytes;
    frames = so.frames;
    taken = Consumes-kept old mid new so.bytes so.taken (subst (λ x. FrameTaken mid new room (Ok x)) is taken);
    answered = so.answered;
  }
