-- A record read from its front: what is left behind each of its parts.
--
-- A record begins with its first lines: version, seal and numbers. A text begins with one of each (`first_once`), so
-- lines that were read are those of the head that it spells (`same_first`). Behind them stands the tag (`tag_first`),
-- then the fields for Vary and those of the head, of which the numbers say how many (`vary_of`, `fields_of`). The parts
-- that were read make the record again (`assembled`). Where one is missing no head spells the text.
use Rattle.std.{proofs.{Common.{◌≡◌, ◌≢◌, ℕ, true, false, List, [], ◌∷◌, ◌++◌, length, take, drop, get_or, IsTrue, refl, sym, ap, ◌∙◌, inl, inr, arith}, lemmas.{Bool.{or_cases}, List.{append_assoc, append-nil, take_at, drop_at}}}, specs.Prelude.{◌||◌, codes}}
use Rattle.hc_text.specs.Texts.{lacks}
use Rattle.hc_fields.specs.{FieldList.{values_of, IsListOf}, Lines.{fields_text}}
use Rattle.hc_text.proofs.Cuts.{cut_once}
use Rattle.hc_fields.proofs.FieldTexts.{fields_once}
use Rattle.hc_record.specs.{declared.{version.Version.{Version, TheVariants.{First, Second}}, parts.{Seal.{Seal}, Numbers.{Numbers}, FirstLines.{FirstLines}}}, Head.{Head, IsHead}, Lines.{IsSmall, version_line, seal_line, joining_text, tag_line}, Parts.{seal_text, IsSmallSeal, numbers_text, AreSmall, first_text, AreFirst}, Record.{field_lines, spelling}}
use Rattle.hc_record.proofs.{JoiningLemmas.{lacks-joining}, Once.{SameSeal, seal_once, SameNumbers, numbers_once}}
use Rattle.hc_rules.specs.Statuses.{brings_whole, brings_part}
use Rattle.hc_rules.proofs.Statuses.{whole_succeeds, part_succeeds}

small_status : (status : ℕ) → IsTrue (brings_whole status || brings_part status) → IsSmall status
small_status status known =
    elim (or_cases (brings_whole status) (brings_part status) known) [
      | inl full ↦ omega (arith, (whole_succeeds status full).1)
      | inr part ↦ omega (arith, (part_succeeds status part).1)
    ]

-- the first lines of a head's record
abbrev pub numbers_of : Head → Numbers
numbers_of head =
    record {
      status = head.status;
      requested = head.requested;
      answered = head.answered;
      vary_count = length head.vary_fields;
      count = length head.fields;
    }

abbrev pub first_of : Version → Head → FirstLines
first_of version head =
    record {
      version = version;
      seal = record { kind = head.kind; total = head.total };
      numbers = numbers_of head;
      status = head.status;
    }

pub AreFirst-of : (version : Version) (head : Head) → IsHead head → AreFirst (first_of version head)
AreFirst-of version head own =
    record {
      seal = own.small_total;
      numbers = record {
        status = small_status head.status own.known_status;
        requested = own.small_requested;
        answered = own.small_answered;
        vary_count = omega (arith, own.vary_list.few);
        count = omega (arith, own.list.few);
      };
      status_is = refl;
      known_status = own.known_status;
    }

-- what stands behind them
abbrev pub rest_lines : Version → Head → List ℕ
rest_lines version head = tag_line version (joining_text head.joining) ++ field_lines head

regroup : (v s n r : List ℕ) → v ++ (s ++ (n ++ r)) ≡ (v ++ (s ++ n)) ++ r
regroup v s n r = simp append_assoc

pub spelling-parts : (version : Version) (head : Head) → spelling version head ≡ first_text (first_of version head) ++ rest_lines version head
spelling-parts version head =
    regroup (version_line version) (seal_line head.kind head.total) (numbers_text (numbers_of head)) (rest_lines version head)

-- one version, one seal, the same numbers
length-version_line : (v : Version) → length (version_line v) ≡ 9
length-version_line First = refl
length-version_line Second = refl

version_line_once : (v w : Version) → version_line v ≡ version_line w → v ≡ w
version_line_once First First same = refl
version_line_once First Second same = absurd (omega (arith, ap (λ (l : List ℕ). get_or l 7 0) same))
version_line_once Second First same = absurd (omega (arith, ap (λ (l : List ℕ). get_or l 7 0) same))
version_line_once Second Second same = refl

pub version_once : (v w : Version) (r s : List ℕ) → version_line v ++ r ≡ version_line w ++ s → (v ≡ w) × (r ≡ s)
version_once v w r s same =
    let len_v = length-version_line v in
    let len_w = length-version_line w in
    let lines = sym (take_at (version_line v) r 9 len_v) ∙ (ap (take 9) same ∙ take_at (version_line w) s 9 len_w) in
    let rests = sym (drop_at (version_line v) r 9 len_v) ∙ (ap (drop 9) same ∙ drop_at (version_line w) s 9 len_w) in
    (version_line_once v w lines, rests)

pub record SameFirst (a b : FirstLines) (r s : List ℕ) : Type 0 where
  pub version : a.version ≡ b.version
  pub seal : SameSeal a.seal.kind b.seal.kind a.seal.total b.seal.total (numbers_text a.numbers ++ r) (numbers_text b.numbers ++ s)
  pub numbers : SameNumbers a.numbers b.numbers r s
  pub status : a.status ≡ b.status

pub first_parts : (a : FirstLines) (r : List ℕ) → first_text a ++ r ≡ version_line a.version ++ (seal_text a.seal ++ (numbers_text a.numbers ++ r))
first_parts a r = sym (regroup (version_line a.version) (seal_text a.seal) (numbers_text a.numbers) r)

pub first_once : (a b : FirstLines) (r s : List ℕ) → AreFirst a → AreFirst b → first_text a ++ r ≡ first_text b ++ s → SameFirst a b r s
first_once a b r s own_a own_b same =
    let apart = sym (first_parts a r) ∙ (same ∙ first_parts b s) in
    let versions = version_once a.version b.version _ _ apart in
    let seals = seal_once a.seal.kind b.seal.kind a.seal.total b.seal.total _ _ own_a.seal own_b.seal versions.1 in
    let ns = numbers_once a.numbers b.numbers r s own_a.numbers own_b.numbers seals.rest in
    record { version = versions.0; seal = seals; numbers = ns; status = own_a.status_is ∙ (ns.status ∙ sym own_b.status_is) }

-- one tag
pub tag_once : (v : Version) (t u r s : List ℕ) → lacks 10 t ≡ true → lacks 10 u ≡ true → tag_line v t ++ r ≡ tag_line v u ++ s →
    (tag_line v t ≡ tag_line v u) × (r ≡ s)
tag_once First t u r s lacks_t lacks_u same = (refl, same)
tag_once Second t u r s lacks_t lacks_u same =
    let behind : (t ++ 10 ∷ []) ++ r ≡ (u ++ 10 ∷ []) ++ s = cc same in
    let once = cut_once 10 t r u s lacks_t lacks_u (sym (append_assoc t (10 ∷ []) r) ∙ (behind ∙ append_assoc u (10 ∷ []) s)) in
    (ap (λ (l : List ℕ). tag_line Second l) once.0, once.1)

-- a record whose first lines were read
module _ (head : Head) (own : IsHead head) (version : Version) (text : List ℕ) (same : spelling version head ≡ text) where
  pub whole : first_text (first_of version head) ++ rest_lines version head ≡ text
  whole = sym (spelling-parts version head) ∙ same

  pub lacks-own : lacks 10 (joining_text head.joining) ≡ true
  lacks-own = lacks-joining (values_of (codes "etag") head.fields) head.joining own.own_joining

  module _ (first : FirstLines) (rest : List ℕ) (fit : AreFirst first) (is : first_text first ++ rest ≡ text) where
    pub same_first : SameFirst (first_of version head) first (rest_lines version head) rest
    same_first = first_once (first_of version head) first _ rest (AreFirst-of version head own) fit (whole ∙ sym is)

    pub tag_first : tag_line first.version (joining_text head.joining) ++ field_lines head ≡ rest
    tag_first = rw same_first.version at same_first.numbers.rest

    pub vary_of : IsListOf first.numbers.vary_count head.vary_fields
    vary_of = record { list = own.vary_list; count_is = same_first.numbers.vary_count }

    pub fields_of : IsListOf first.numbers.count head.fields
    fields_of = record { list = own.list; count_is = same_first.numbers.count }

    module _ (tag lines : List ℕ) (lacking : lacks 10 tag ≡ true) (tag_is : tag_line first.version tag ++ lines ≡ rest) where
      pub after_tag : (tag_line first.version (joining_text head.joining) ≡ tag_line first.version tag) × (field_lines head ≡ lines)
      after_tag = tag_once first.version (joining_text head.joining) tag (field_lines head) lines lacks-own lacking (tag_first ∙ sym tag_is)

      pub after_vary : (fs : List (List ℕ × List ℕ)) (left : List ℕ) → IsListOf first.numbers.vary_count fs → fields_text fs ++ left ≡ lines →
          (fs ≡ head.vary_fields) × (left ≡ fields_text head.fields)
      after_vary fs left of_fs is_fs =
          fields_once fs head.vary_fields left (fields_text head.fields) of_fs.list.fields own.vary_list.fields (of_fs.count_is ∙ sym vary_of.count_is)
          (is_fs ∙ sym after_tag.1)

      pub after_fields : (fs gs : List (List ℕ × List ℕ)) (left end : List ℕ) → IsListOf first.numbers.vary_count fs → fields_text fs ++ left ≡ lines →
          IsListOf first.numbers.count gs → fields_text gs ++ end ≡ left → (gs ≡ head.fields) × (end ≡ [])
      after_fields fs gs left end of_fs is_fs of_gs is_gs =
          fields_once gs head.fields end [] of_gs.list.fields own.list.fields (of_gs.count_is ∙ sym fields_of.count_is)
          (is_gs ∙ ((after_vary fs left of_fs is_fs).1 ∙ sym (append-nil (fields_text head.fields))))

-- the parts that were read are the record of the head that they make
pub assembled : (head : Head) (first : FirstLines) (text rest tag lines left end : List ℕ) → AreFirst first → first_text first ++ rest ≡ text →
    tag_line first.version tag ++ lines ≡ rest → fields_text head.vary_fields ++ left ≡ lines → fields_text head.fields ++ end ≡ left → end ≡ [] →
    tag_line first.version tag ≡ tag_line first.version (joining_text head.joining) → head.kind ≡ first.seal.kind → head.total ≡ first.seal.total →
    head.status ≡ first.numbers.status → head.requested ≡ first.numbers.requested → head.answered ≡ first.numbers.answered →
    length head.vary_fields ≡ first.numbers.vary_count → length head.fields ≡ first.numbers.count → spelling first.version head ≡ text
assembled head first text rest tag lines left end fit is tag_is vary_is fields_is none own kind total status requested answered vary_count count =
    let fields : fields_text head.fields ≡ left = sym (append-nil (fields_text head.fields)) ∙ rw none at fields_is in
    let behind : field_lines head ≡ lines = ap (λ (l : List ℕ). fields_text head.vary_fields ++ l) fields ∙ vary_is in
    let later : rest_lines first.version head ≡ rest = rw (behind, ← own) tag_is in
    spelling-parts first.version head ∙ rw (kind, total, status, requested, answered, vary_count, count, later) is

tag_regroup : (t r : List ℕ) → tag_line Second t ++ r ≡ codes "tag " ++ (t ++ 10 ∷ r)
tag_regroup t r = ap (λ (l : List ℕ). codes "tag " ++ l) (append_assoc t (10 ∷ []) r)

pub no_tag : (text : List ℕ) → ((after : List ℕ) → codes "tag " ++ after ≢ text) → (tag after : List ℕ) → tag_line Second tag ++ after ≢ text
no_tag text none tag after same = none (tag ++ 10 ∷ after) (sym (tag_regroup tag after) ∙ same)

-- a text without a line of numbers behind kind and total
pub no_numbers : (version : Version) (seal : Seal) (text one two : List ℕ) → version_line version ++ one ≡ text → IsSmallSeal seal → seal_text seal ++
    two ≡ one → ((n : Numbers) (after : List ℕ) → AreSmall n → numbers_text n ++ after ≢ two) → (first : FirstLines) (after : List ℕ) → AreFirst first →
    first_text first ++ after ≢ text
no_numbers version seal text one two version_is small seal_is none first after fit same =
    let versions = version_once first.version version _ one (sym (first_parts first after) ∙ (same ∙ sym version_is)) in
    let seals = seal_once first.seal.kind seal.kind first.seal.total seal.total _ two fit.seal small (versions.1 ∙ sym seal_is) in
    none first.numbers after fit.numbers seals.rest

-- a text whose status is of no founding head
pub no_status : (version : Version) (seal : Seal) (n : Numbers) (text one two three : List ℕ) → version_line version ++ one ≡ text → IsSmallSeal seal →
    seal_text seal ++ two ≡ one → AreSmall n → numbers_text n ++ three ≡ two → (brings_whole n.status || brings_part n.status) ≡ false →
    (first : FirstLines) (after : List ℕ) → AreFirst first → first_text first ++ after ≢ text
no_status version seal n text one two three version_is small seal_is small_n n_is other first after fit same =
    let versions = version_once first.version version _ one (sym (first_parts first after) ∙ (same ∙ sym version_is)) in
    let seals = seal_once first.seal.kind seal.kind first.seal.total seal.total _ two fit.seal small (versions.1 ∙ sym seal_is) in
    let ns = numbers_once first.numbers n after three fit.numbers small_n (seals.rest ∙ sym n_is) in
    let known : (brings_whole n.status || brings_part n.status) ≡ true = rw (fit.status_is ∙ ns.status) at fit.known_status in
    let never : false ≡ true = sym other ∙ known in
    cc
