-- Names appended to octets.
use Rattle.std.proofs.Common.{◌≡◌, ℕ, ◌+◌, ◌<◌, ◌≤◌, Bool, true, false, List, [], ◌∷◌, ◌++◌, length, refl, sym, ◌∙◌, ap, subst, arith}
use Rattle.std.proofs.Common.{append_assoc, ◌⊎◌, inl, inr, Option, Some, None, Result, Ok, Err}
use Rattle.std.specs.Prelude.{IfOk, IfErr, OnOk}
use Rattle.std.proofs.{lemmas.Bool.Decides.nat_tests, lemmas.List.length-append}
use Rattle.dns_fields.specs.Labels.{DomainName, AreLabels, FitsName, IsName, lowname, wire}
use Rattle.dns_fields.proofs.{NameLaws.lowname_length, Runs.wire-append, Runs.AreLabels-append}
use Rattle.dns_types.specs.declared.error.ParseError.{ParseError}
use Rattle.dns_types.specs.declared.error.ParseError.TheVariants as parse
use Rattle.dns_names_wire.specs.NameValues.{root_name, joined_name, completed}
use Rattle.dns_tokens.specs.Reads.{UnlessParseMemory}
use Rattle.dns_zone_tokens.specs.{Letters.escapes_stand, NameSteps.LabelsRead, Tokens.Token, ZoneReads.PutAs, ZoneReads.PutsAs}
use Rattle.dns_zone_tokens.specs.NameTokens.{labelled, is_alone, named, name, name_octets, NameFault}
use Rattle.dns_zone_tokens.specs.declared.field.NameField.{NameField}
use Rattle.dns_tokens.proofs.Steps.{unless_all}
use Rattle.dns_zone_tokens.proofs.NameLabels.{labels_read}

-- of a result
pub if_ok : {T E : Type 0} (P Q : T → Type 0) (r : Result T E) → ((x : T) → P x → Q x) → IfOk r P → IfOk r Q
if_ok P Q (Ok x) f h = f x h
if_ok P Q (Err e) f h = tt

-- and of an error
pub if_err : {T E : Type 0} (P Q : E → Type 0) (r : Result T E) → ((e : E) → P e → Q e) → IfErr r P → IfErr r Q
if_err P Q (Ok x) f h = tt
if_err P Q (Err e) f h = f e h

-- ---- the root

pub alone_is : (c : ℕ) (s : List ℕ) → is_alone c s ≡ true → s ≡ c ∷ []
alone_is c [] h = absurd (cc)
alone_is c (d ∷ []) h = let same : d ≡ c = grind (arith, nat_tests) in ap (λ (e : ℕ). e ∷ []) same
alone_is c (d ∷ e ∷ s) h = absurd (cc)

dot_put : (origin : Option DomainName) (token : Token) (before after : List ℕ) → token.quoted ≡ false → is_alone 46 token.octets ≡ true
    → after ≡ before ++ 0 ∷ []
    → PutAs (name origin) name_octets before after token
dot_put origin token before after bare dot same =
    let e : token.octets ≡ 46 ∷ [] = alone_is 46 token.octets dot in record {
      value = root_name;
      is = record {
        bare = bare;
        escapes = ap escapes_stand e;
        named = ap (named origin) e;
        is_name = record { labels = tt; fits = omega arith };
      };
      same = same;
    }

-- ---- labels

-- a token that is neither `@` nor a dot has labels
labels_named : (origin : Option DomainName) (s : List ℕ) → is_alone 64 s ≡ false → is_alone 46 s ≡ false → named origin s ≡ Some (completed (labelled s) origin)
labels_named origin s h k = rw (h, k) refl

pub completed_full : (name : DomainName) (origin : Option DomainName) → name.fully_qualified ≡ true → completed name origin ≡ name
completed_full name None h = refl
completed_full name (Some own) h = rw h refl

pub full_by : {text : List ℕ} {mark : Bool} {octets : List ℕ} → LabelsRead text mark octets → mark ≡ true → (labelled text).fully_qualified ≡ true
full_by read h = ap (λ (y : DomainName). y.fully_qualified) read.name ∙ h

pub completed_none : (name : DomainName) (origin : Option DomainName) → origin ≡ None → completed name origin ≡ name
completed_none name origin h = rw h refl

octets_same : (text : List ℕ) (mark : Bool) (octets : List ℕ) (read : LabelsRead text mark octets) → octets ≡ wire (labelled text).labels
octets_same text mark octets read = read.same ∙ ap (λ (y : DomainName). wire y.labels) (sym read.name)

memory_put : (P : Type 0) (e : ParseError) → e ≡ parse.Memory → UnlessParseMemory e P
memory_put P e h = subst (λ (x : ParseError). UnlessParseMemory x P) (sym h) tt

-- the root, where there is room
pub dot_ended : {T : Type 0} (origin : Option DomainName) (token : Token) (r : Result T ParseError) (before after : List ℕ) → token.quoted ≡ false
    → is_alone 46 token.octets ≡ true → OnOk r (after ≡ before ++ 0 ∷ []) → IfErr r (λ e. e ≡ parse.Memory) → PutsAs (name origin) name_octets r before after token
dot_ended origin token (Ok x) before after bare dot put memory = dot_put origin token before after bare dot put
dot_ended origin token (Err e) before after bare dot put memory = memory_put _ e memory

-- the labels of a token that no origin completes
pub whole_put : {T : Type 0} (origin : Option DomainName) (token : Token) (mark : Bool) (r : Result T ParseError) (before after octets : List ℕ)
    → token.quoted ≡ false → is_alone 64 token.octets ≡ false → is_alone 46 token.octets ≡ false → LabelsRead token.octets mark octets
    → completed (labelled token.octets) origin ≡ labelled token.octets → OnOk r (after ≡ before ++ (octets ++ 0 ∷ [])) → IfErr r (λ e. e ≡ parse.Memory)
    → PutsAs (name origin) name_octets r before after token
whole_put origin token mark (Ok x) before after octets bare h k read alone put memory = record {
  value = labelled token.octets;
  is = record {
    bare = bare;
    escapes = read.escapes;
    named = labels_named origin token.octets h k ∙ ap (λ (y : DomainName). Some y) alone;
    is_name = record {
      labels = labels_read read;
      fits = omega (arith, read.fits, ap length read.same, ap length (octets_same token.octets mark octets read));
    };
  };
  same = put ∙ ap (λ (o : List ℕ). before ++ (o ++ 0 ∷ [])) (octets_same token.octets mark octets read);
}
whole_put origin token mark (Err e) before after octets bare h k read alone put memory = memory_put _ e memory

-- ---- with the origin's

joined_is : (x own : DomainName) → x.fully_qualified ≡ false → completed x (Some own) ≡ joined_name x own
joined_is x own h = rw h refl

-- the room that the labels of the token and of the origin take
joined_room : (x own : DomainName) (octets : List ℕ) → octets ≡ wire x.labels
    → length (wire (x.labels ++ own.labels)) + 1 ≡ length octets + length (lowname own)
joined_room x own octets wired =
    omega (arith, ap length (wire-append x.labels own.labels), length-append (wire x.labels) (wire own.labels), lowname_length own, ap length wired)

joined_put : (x own : DomainName) (before after octets : List ℕ) → octets ≡ wire x.labels → after ≡ before ++ (octets ++ name_octets own)
    → after ≡ before ++ name_octets (joined_name x own)
joined_put x own before after octets wired put =
    put
    ∙ ap (λ (o : List ℕ). before ++ (o ++ name_octets own)) wired
    ∙ ap (λ (o : List ℕ). before ++ o) (sym (append_assoc (wire x.labels) (wire own.labels) (0 ∷ []))
    ∙ ap (λ (o : List ℕ). o ++ 0 ∷ []) (sym (wire-append x.labels own.labels)))

-- a token of labels that the origin completes
pub record IsCompleted (origin : Option DomainName) (own : DomainName) (token : Token) (octets : List ℕ) : Type 0 where
  pub bare : token.quoted ≡ false
  pub escapes : escapes_stand token.octets ≡ true
  pub named : named origin token.octets ≡ Some (joined_name (labelled token.octets) own)
  pub all : completed (labelled token.octets) origin ≡ joined_name (labelled token.octets) own
  pub labels : AreLabels (labelled token.octets).labels
  pub fits : FitsName (labelled token.octets).labels
  pub wired : octets ≡ wire (labelled token.octets).labels

pub is_completed : (origin : Option DomainName) (own : DomainName) (token : Token) (octets : List ℕ) (mark : Bool)
    → origin ≡ Some own → mark ≡ false → token.quoted ≡ false → is_alone 64 token.octets ≡ false → is_alone 46 token.octets ≡ false
    → LabelsRead token.octets mark octets
    → IsCompleted origin own token octets
is_completed origin own token octets mark same relative bare h k read =
    let all : completed (labelled token.octets) origin ≡ joined_name (labelled token.octets) own =
    ap (completed (labelled token.octets)) same
    ∙ joined_is (labelled token.octets) own (ap (λ (y : DomainName). y.fully_qualified) read.name ∙ relative) in record {
      bare = bare;
      escapes = read.escapes;
      named = labels_named origin token.octets h k ∙ ap (λ (y : DomainName). Some y) all;
      all = all;
      labels = labels_read read;
      fits = omega (arith, read.fits, ap length read.same, ap length (octets_same token.octets mark octets read));
      wired = octets_same token.octets mark octets read;
    }

-- its name, where there is room
pub completed_put : {T : Type 0} (origin : Option DomainName) (own : DomainName) (token : Token) (r : Result T ParseError) (before after octets : List ℕ) (long : ParseError)
    → IsCompleted origin own token octets → OnOk r (after ≡ before ++ (octets ++ name_octets own)) → OnOk r (length octets + length (lowname own) ≤ 255)
    → IsName own
    → IfErr r (λ e. (e ≡ parse.Memory) ⊎ ((e ≡ long) × (255 < length octets + length (lowname own))))
    → PutsAs (name origin) name_octets r before after token
completed_put origin own token (Ok t) before after octets long has put fits is why = record {
  value = joined_name (labelled token.octets) own;
  is = record {
    bare = has.bare;
    escapes = has.escapes;
    named = has.named;
    is_name = record {
      labels = AreLabels-append (labelled token.octets).labels own.labels has.labels is.labels;
      fits = omega (arith, joined_room (labelled token.octets) own octets has.wired, fits);
    };
  };
  same = joined_put (labelled token.octets) own before after octets has.wired put;
}
completed_put origin own token (Err e) before after octets long has put fits is (inl memory) = memory_put _ e memory
completed_put origin own token (Err e) before after octets long has put fits is (inr past) = unless_all e (record {
  none = λ v value.
      let one : Some (joined_name (labelled token.octets) own) ≡ Some v = sym has.named ∙ value.named in
      let same : joined_name (labelled token.octets) own ≡ v = cc in
      let is_name : IsName (joined_name (labelled token.octets) own) = subst IsName (sym same) value.is_name in
      omega (arith, is_name.fits, joined_room (labelled token.octets) own octets has.wired, past.1);
})

-- and why there is none
pub completed_why : {T : Type 0} (origin : Option DomainName) (own : DomainName) (token : Token) (field : NameField) (r : Result T ParseError) (octets : List ℕ)
    → IsCompleted origin own token octets
    → IfErr r (λ e. (e ≡ parse.Memory) ⊎ ((e ≡ parse.Message field.long_name) × (255 < length octets + length (lowname own))))
    → IfErr r (λ e. (e ≡ parse.Memory) ⊎ NameFault field origin token e)
completed_why origin own token field (Ok t) octets has why = tt
completed_why origin own token field (Err e) octets has (inl memory) = inl memory
completed_why origin own token field (Err e) octets has (inr past) = inr (inr (
  has.bare,
  inr (inr (
    past.0,
    record {
      escapes = has.escapes;
      own = record { labels = has.labels; fits = has.fits };
      long = subst (λ (y : DomainName). 255 < length (wire y.labels) + 1) (sym has.all) (omega (arith, joined_room (labelled token.octets) own octets has.wired, past.1));
    },
  )),
))

-- ---- a name that is put after other octets
