-- What a folder has behind a run that was served from it.
--
-- Its recorder tells what it took behind the file of the image (`told_first`). What the loop says of that, it says as well of the
-- text alone (`text_behind`). What was told is kept as the recorder says when it is closed (`kept_behind`).
use Rattle.std.{proofs.{Common.{◌≡◌, ℕ, ◌<◌, ◌^◌, List, [], ◌∷◌, ◌++◌, length, Option, Some, None, refl, ap, sym, ◌∙◌, subst, append_assoc}, lemmas.Option.{same_Some}}, specs.{Global.{Global}, Option.{option_map}, Prelude.{Vec, Ok, IfSome, IsSomeAnd}}}
use Rattle.hc_folder.{specs.{Closing.{StandsAs}, Files.{Files, HasNoneFrom, OnFiles}, ImageFiles.{image_file, image_sum, IsImageFileOf}, Written.{tells, told_by}, declared.recording.Standing.{Standing}}, proofs.{Closing.{tells_once}, Told.{untold}}}
use Rattle.hc_io.specs.Sink.{Takes, TakesPrefix}
use Rattle.hc_model.specs.Entries.{Contents}
use Rattle.hc_rules.specs.declared.room.Limits.{Limits}
use Rattle.hc_sched.specs.declared.schedule.Ended.{Ended}
use Rattle.hc_sched.specs.declared.schedule.Ended.TheVariants as ended
use Rattle.hc_wire.specs.Logs.{Log}
use Rattle.hc_proxy.specs.{Endings.{Serves, TakesTurns}, Recorded.{Records}, Rows.{Setting}, Served.{ServesWith}, Turns.{behind_all, behind_calls, record_of}}
use Rattle.hc_proxy.specs.Endings as endings
use Rattle.hc_image.specs.Images.{image_of}
use Rattle.hc_keeping.{specs.{Images.{IsNewImage}, Keeps.{Keeps}, declared.{image.NewImage.{NewImage}, keeping.Kept.{Kept}}}, proofs.FromFiles.{next_unused}}
use Rattle.hc_keep_app.specs.Serving.{IsKept, taken_by}

-- the text alone, behind the file of the image
module _ (file : List ℕ) where
  takes_to : (a x : List ℕ) (o : Option (List ℕ)) → Takes (Some (tells file a)) o x → o ≡ Some (tells file (a ++ x))
  takes_to a x o is = is ∙ ap (λ l. Some (length file ∷ l)) (append_assoc file a x)

  takes_plain : (a t x : List ℕ) → Takes (Some (tells file a)) (Some (tells file t)) x → t ≡ a ++ x
  takes_plain a t x is = (tells_once file file t (a ++ x) (same_Some (tells file t) (tells file (a ++ x)) (takes_to a x (Some (tells file t)) is))).1

  prefix_plain : (a t x : List ℕ) → TakesPrefix (Some (tells file a)) (Some (tells file t)) x → TakesPrefix (Some a) (Some t) x
  prefix_plain a t x q = record { front = q.front; rest = q.rest; whole = q.whole; takes = ap Some (takes_plain a t q.front q.takes) }

  -- THE RECORD

  module _ (limits : Limits) (contents : Contents) where
    text_of_records : (out : Option (List ℕ)) (end : Ended) → Records limits contents (Some (tells file [])) out end
        → (t : List ℕ) × (out ≡ Some (tells file t))
    text_of_records out ended.Done q = (q.0, takes_to [] q.0 out q.2)
    text_of_records out (ended.Refused r) q = (q.2.front, takes_to [] q.2.front out q.2.takes)
    text_of_records out ended.SourceFailed q = (q.2.front, takes_to [] q.2.front out q.2.takes)
    text_of_records out ended.SinkFailed q = (q.2.front, takes_to [] q.2.front out q.2.takes)
    text_of_records out ended.WireFailed q = (q.2.front, takes_to [] q.2.front out q.2.takes)
    text_of_records out ended.NoMemory q = (q.2.front, takes_to [] q.2.front out q.2.takes)

    records_text : (t : List ℕ) (end : Ended) → Records limits contents (Some (tells file [])) (Some (tells file t)) end
        → Records limits contents (Some []) (Some t) end
    records_text t ended.Done q = (q.0, q.1, ap Some (takes_plain [] t q.0 q.2))
    records_text t (ended.Refused r) q = (q.0, q.1, prefix_plain [] t q.0 q.2)
    records_text t ended.SourceFailed q = (q.0, q.1, prefix_plain [] t q.0 q.2)
    records_text t ended.SinkFailed q = (q.0, q.1, prefix_plain [] t q.0 q.2)
    records_text t ended.WireFailed q = (q.0, q.1, prefix_plain [] t q.0 q.2)
    records_text t ended.NoMemory q = (q.0, q.1, prefix_plain [] t q.0 q.2)

  -- WHAT IS SERVED

  module _ (limits : Limits) (setting : Setting) (turns : ℕ) (t : List ℕ) where
    turns_text : (log : Log) → TakesTurns limits setting log (Some (tells file [])) (Some (tells file t)) → TakesTurns limits setting log (Some []) (Some t)
    turns_text log w =
        let earlier = record_of (behind_calls limits setting log w.turns) in
        record {
          turns = w.turns;
          all_but_one = w.all_but_one;
          between = Some earlier;
          earlier = refl;
          schedule = w.schedule;
          last = w.last;
          part = prefix_plain earlier t w.last
              (subst (λ (o : Option (List ℕ)). TakesPrefix o (Some (tells file t)) w.last) (takes_to [] earlier w.between w.earlier) w.part);
          record_is = w.record_is;
        }

    ends_text : (log : Log) (end : Ended) → Serves limits setting turns log (Some (tells file [])) (Some (tells file t)) end →
        Serves limits setting turns log (Some []) (Some t) end
    ends_text log _ (endings.done is_log all finished takes schedule) =
        endings.done is_log all finished (ap Some (takes_plain [] t (record_of (behind_all limits setting log)) takes)) schedule
    ends_text log _ (endings.unwired is_log few takes) = endings.unwired is_log few (turns_text log takes)
    ends_text log _ (endings.unwritten is_log few takes) = endings.unwritten is_log few (turns_text log takes)
    ends_text log _ (endings.wanting is_log few takes) = endings.wanting is_log few (turns_text log takes)

    serves_text : (before after : Option Log) (end : Ended) → ServesWith limits setting turns before after (Some (tells file [])) (Some (tells file t)) end →
        ServesWith limits setting turns before after (Some []) (Some t) end
    serves_text before None end q = tt
    serves_text before (Some log) end q = (ends_text log end q.0, q.1, q.2)

-- WHERE THE FOLDER TELLS ITS FILES

-- what its recorder tells of a text
abbrev pub told_text : List ℕ → Option Files → List ℕ → Option (List ℕ)
told_text file files text = option_map (λ (f : Files). tells file text) files

module _ (file put : List ℕ) (same_file : put ≡ file) (R : Files → Files → Type 0) (owed : Option (Vec ℕ Global)) (n at : ℕ) (bytes waiting : List ℕ)
    (now : Option Files) where
  first_by : (files : Option Files) → IfSome files (λ (f : Files). told_by owed n at bytes waiting now ≡ Some (tells put [])) → OnFiles R files now →
      told_by owed n at bytes waiting now ≡ told_text file files []
  first_by None told kept = ap (told_by owed n at bytes waiting) kept ∙ untold owed n at bytes waiting
  first_by (Some f) told kept = told ∙ ap (λ (l : List ℕ). Some (tells l [])) same_file

  pub told_first : (files before : Option Files) → before ≡ files → IfSome before (λ (f : Files). told_by owed n at bytes waiting now ≡ Some (tells put [])) →
      OnFiles R before now → told_by owed n at bytes waiting now ≡ told_text file files []
  told_first files before same told kept = first_by before told kept ∙ ap (λ (o : Option Files). told_text file o []) same

module _ (file : List ℕ) (limits : Limits) (contents : Contents) where
  told_behind : (files : Option Files) (out : Option (List ℕ)) (end : Ended) → Records limits contents (told_text file files []) out end →
      (t : List ℕ) × (out ≡ told_text file files t)
  told_behind None out ended.Done q = ([], q.2)
  told_behind None out (ended.Refused r) q = ([], q.2.takes)
  told_behind None out ended.SourceFailed q = ([], q.2.takes)
  told_behind None out ended.SinkFailed q = ([], q.2.takes)
  told_behind None out ended.WireFailed q = ([], q.2.takes)
  told_behind None out ended.NoMemory q = ([], q.2.takes)
  told_behind (Some f) out end q = text_of_records file limits contents out end q

  records_plain : (files : Option Files) (t : List ℕ) (end : Ended) → Records limits contents (told_text file files []) (told_text file files t) end →
      Records limits contents (taken_by files []) (taken_by files t) end
  records_plain None t end q = q
  records_plain (Some f) t end q = records_text file limits contents t end q

  serves_plain : (setting : Setting) (turns : ℕ) (files : Option Files) (t : List ℕ) (before after : Option Log) (end : Ended) →
      ServesWith limits setting turns before after (told_text file files []) (told_text file files t) end →
      ServesWith limits setting turns before after (taken_by files []) (taken_by files t) end
  serves_plain setting turns None t before after end q = q
  serves_plain setting turns (Some f) t before after end q = serves_text file limits setting turns t before after end q

  -- the text that was recorded, and what is said of it
  pub record Text (setting : Setting) (turns : ℕ) (files : Option Files) (out : Option (List ℕ)) (before after : Option Log) (end : Ended) : Type 0 where
    pub text : List ℕ
    pub told : out ≡ told_text file files text
    pub serves : ServesWith limits setting turns before after (taken_by files []) (taken_by files text) end
    pub records : Records limits contents (taken_by files []) (taken_by files text) end

  pub text_behind : (setting : Setting) (turns : ℕ) (files : Option Files) (first out : Option (List ℕ)) (before after : Option Log) (end : Ended) →
      first ≡ told_text file files [] → Records limits contents first out end → ServesWith limits setting turns before after first out end →
      Text setting turns files out before after end
  text_behind setting turns files first out before after end is recorded serves =
      let all = told_behind files out end (subst (λ (o : Option (List ℕ)). Records limits contents o out end) is recorded) in
      record {
        text = all.0;
        told = all.1;
        serves = serves_plain setting turns files all.0 before after end
            (subst (λ (o : Option (List ℕ)). ServesWith limits setting turns before after o (told_text file files all.0) end) is
            (subst (λ (o : Option (List ℕ)). ServesWith limits setting turns before after first o end) all.1 serves));
        records = records_plain files all.0 end
            (subst (λ (o : Option (List ℕ)). Records limits contents o (told_text file files all.0) end) is
            (subst (λ (o : Option (List ℕ)). Records limits contents first o end) all.1 recorded));
      }

-- BEFORE AND BEHIND THE RUN

module _ (contents : Contents) (n : ℕ) (small : n < 2 ^ 62) where
  pub image_behind : (m : ℕ) (made : NewImage) → m ≡ n → IsNewImage contents n made → IsImageFileOf made.file.items m made.sum
  image_behind m made same q = record {
    image = image_of contents;
    small = subst (λ (k : ℕ). k < 2 ^ 62) (sym same) small;
    file_is = q.file_is ∙ ap (image_file (image_of contents)) (sym same);
    sum_is = q.sum_is ∙ ap (image_sum (image_of contents)) (sym same);
  }

  pub kept_behind : (text : List ℕ) (s : Standing) (files now : Option Files) (out : Option (List ℕ)) →
      out ≡ told_text (image_file (image_of contents) n) files text → (out ≡ None → now ≡ None) →
      ((image t : List ℕ) (m : ℕ) → m < 2 ^ 62 → out ≡ Some (tells (image_file image m) t) → IsSomeAnd now (λ (f : Files). ∥ StandsAs image m t f s ∥₁))
      → IsKept contents n text s files now
  kept_behind text s None now out told none stands = none told
  kept_behind text s (Some f) now out told none stands = stands (image_of contents) text n small told

pub next_free : (limits : Limits) (files now : Option Files) (kept : Kept) (m : ℕ) → now ≡ files → m ≡ kept.next →
    IfSome files (λ (f : Files). Keeps limits f (Ok kept)) → IfSome now (HasNoneFrom m)
next_free limits None now kept m same next keeps = subst (λ (o : Option Files). IfSome o (HasNoneFrom m)) (sym same) tt
next_free limits (Some f) now kept m same next keeps =
    subst (λ (o : Option Files). IfSome o (HasNoneFrom m)) (sym same) (subst (λ (k : ℕ). HasNoneFrom k f) (sym next) (next_unused limits f kept keeps))
