use Rattle.std.proofs.Common.{◌≡◌, ℕ, refl, ◌+◌, ◌<◌, add-one, length, get_or, set, ap, sym, ◌∙◌, arith}
use Rattle.fm_raw.specs.declared.bucket.bound.Bucket.{Bucket}
use Rattle.fm_raw.specs.declared.bucket.bound.Bound.{Bound}
use Rattle.fm_histogram.proofs.MergeLemmas.{merged_upto, merged_upto-get, merged_more, merged_all}
use Rattle.fm_histogram.proofs.counts.add_counts.Goals as goal

abbrev bucket : Bound → ℕ → Bucket
bucket u n = record { upper_bound = u; count = n }

-- a bucket by its parts
bucket_is : (u u' : Bound) (n n' m m' : ℕ) → u ≡ u' → n ≡ n' → m ≡ m' → bucket u (n + m) ≡ bucket u' (n' + m')
bucket_is u u' n n' m m' e f g = rw (e, f, g) refl

pub overflow_add-count : goal.overflow_add-count
overflow_add-count c =
    let i = c.loop-i.i in
    let d = c.index-buckets-i.result in
    let same = ap (λ bs. get_or bs i d) c.loop-i.invariant ∙ merged_upto-get i c.args.buckets.now c.args.other.now d in
    let same' = ap (λ (b : Bucket). b.count) same in
    record { fits = omega (arith, same', ap (λ (b : Bucket). b.count) c.index-other-i.is, c.requires.fits i d c.index-other-i.result c.loop-i-test.true) }

pub loop-i-preserved : goal.loop-i-preserved
loop-i-preserved c =
    let i = c.loop-i.i in
    let d = c.index-buckets-i.result in
    let e = c.index-other-i.result in
    let was = c.args.buckets.now in
    let same = ap (λ bs. get_or bs i d) c.loop-i.invariant ∙ merged_upto-get i was c.args.other.now d in
    let in' : i < length was = omega (arith, c.requires.len) in
    let a = get_or c.loop-i.buckets i d in
    let b = get_or c.args.other.now i e in
    let a-is : a ≡ get_or was i a = same ∙ ap (λ z. get_or was i z) c.index-buckets-i.is in
    let b-is : b ≡ get_or c.args.other.now i b = ap (λ z. get_or c.args.other.now i z) c.index-other-i.is in
    let step = merged_more i was c.args.other.now a b in' c.loop-i-test.true a-is b-is in
    let made : c.new.result ≡ record { upper_bound = a.upper_bound; count = a.count + b.count } = c.new.ensures ∙ bucket_is _ _ _ _ _ _ c.upper_bound.ensures c.count.ensures (c.count-in-loop-i.ensures ∙ ap (λ (z : Bucket). z.count) c.index-other-i.is) in
    ap (λ x. set c.loop-i.buckets i x) made ∙ ap (λ bs. set bs i (record { upper_bound = a.upper_bound; count = a.count + b.count })) c.loop-i.invariant ∙ (step ∙ ap (λ n. merged_upto n was c.args.other.now) (sym (add-one i)))

pub returns : goal.returns
returns c =
    let at : c.loop-i.i ≡ length c.args.other.now = omega arith in
    c.loop-i.invariant ∙ (ap (λ n. merged_upto n c.args.buckets.now c.args.other.now) at ∙ merged_all c.args.buckets.now c.args.other.now c.requires.len)
