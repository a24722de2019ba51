use Rattle.std.proofs.Common.{◌≡◌, ◌-◌, ◌^◌, ◌<◌, drop}
use Rattle.layout.specs.Reading as bytes
use Rattle.sheet.proofs.reader.Reader.judged_digits.Given as goal

-- what is left of the digits gives the answer
abbrev pub invariant-loop : goal.invariant-loop
invariant-loop l = record {
  same : l.self.text ≡ l.initial.self.text;
  small : l.value < 16 ^ l.counter;
  ahead : l.self.place ≡ bytes.ahead l.initial.self.place l.counter;
  left : bytes.digits (l.count - l.counter) l.value (drop l.self.place.byte l.self.text.now) l.self.place
      ≡ bytes.digits l.count 0 (drop l.initial.self.place.byte l.initial.self.text.now) l.initial.self.place;
}
