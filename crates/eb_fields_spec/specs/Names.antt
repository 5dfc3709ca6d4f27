-- The names of a record's fields, as bytes in ASCII (docs/RULES.md, Fields). Assumes nothing.
use Rattle.std.specs.Prelude.{ℕ, List, [], ◌∷◌, ◌++◌}
use Rattle.text_put_spec.specs.Text.{decimal}

-- `sequence-number`
abbrev pub sequence_name : List ℕ
sequence_name = 115 ∷ 101 ∷ 113 ∷ 117 ∷ 101 ∷ 110 ∷ 99 ∷ 101 ∷ 45 ∷ 110 ∷ 117 ∷ 109 ∷ 98 ∷ 101 ∷ 114 ∷ []

-- `pan-id`
abbrev pub pan_name : List ℕ
pan_name = 112 ∷ 97 ∷ 110 ∷ 45 ∷ 105 ∷ 100 ∷ []

-- `source`
abbrev pub source_name : List ℕ
source_name = 115 ∷ 111 ∷ 117 ∷ 114 ∷ 99 ∷ 101 ∷ []

-- `asn`
abbrev pub asn_name : List ℕ
asn_name = 97 ∷ 115 ∷ 110 ∷ []

-- `join-metric`
abbrev pub metric_name : List ℕ
metric_name = 106 ∷ 111 ∷ 105 ∷ 110 ∷ 45 ∷ 109 ∷ 101 ∷ 116 ∷ 114 ∷ 105 ∷ 99 ∷ []

-- `template-id`
abbrev pub template_name : List ℕ
template_name = 116 ∷ 101 ∷ 109 ∷ 112 ∷ 108 ∷ 97 ∷ 116 ∷ 101 ∷ 45 ∷ 105 ∷ 100 ∷ []

-- `timing-cca-offset`: macTsCcaOffset
abbrev pub timing_cca_offset_name : List ℕ
timing_cca_offset_name = 116 ∷ 105 ∷ 109 ∷ 105 ∷ 110 ∷ 103 ∷ 45 ∷ 99 ∷ 99 ∷ 97 ∷ 45 ∷ 111 ∷ 102 ∷ 102 ∷ 115 ∷ 101 ∷ 116 ∷ []

-- `timing-cca`: macTsCca
abbrev pub timing_cca_name : List ℕ
timing_cca_name = 116 ∷ 105 ∷ 109 ∷ 105 ∷ 110 ∷ 103 ∷ 45 ∷ 99 ∷ 99 ∷ 97 ∷ []

-- `timing-tx-offset`: macTsTxOffset
abbrev pub timing_tx_offset_name : List ℕ
timing_tx_offset_name = 116 ∷ 105 ∷ 109 ∷ 105 ∷ 110 ∷ 103 ∷ 45 ∷ 116 ∷ 120 ∷ 45 ∷ 111 ∷ 102 ∷ 102 ∷ 115 ∷ 101 ∷ 116 ∷ []

-- `timing-rx-offset`: macTsRxOffset
abbrev pub timing_rx_offset_name : List ℕ
timing_rx_offset_name = 116 ∷ 105 ∷ 109 ∷ 105 ∷ 110 ∷ 103 ∷ 45 ∷ 114 ∷ 120 ∷ 45 ∷ 111 ∷ 102 ∷ 102 ∷ 115 ∷ 101 ∷ 116 ∷ []

-- `timing-rx-ack-delay`: macTsRxAckDelay
abbrev pub timing_rx_ack_delay_name : List ℕ
timing_rx_ack_delay_name = 116 ∷ 105 ∷ 109 ∷ 105 ∷ 110 ∷ 103 ∷ 45 ∷ 114 ∷ 120 ∷ 45 ∷ 97 ∷ 99 ∷ 107 ∷ 45 ∷ 100 ∷ 101 ∷ 108 ∷ 97 ∷ 121 ∷ []

-- `timing-tx-ack-delay`: macTsTxAckDelay
abbrev pub timing_tx_ack_delay_name : List ℕ
timing_tx_ack_delay_name = 116 ∷ 105 ∷ 109 ∷ 105 ∷ 110 ∷ 103 ∷ 45 ∷ 116 ∷ 120 ∷ 45 ∷ 97 ∷ 99 ∷ 107 ∷ 45 ∷ 100 ∷ 101 ∷ 108 ∷ 97 ∷ 121 ∷ []

-- `timing-rx-wait`: macTsRxWait
abbrev pub timing_rx_wait_name : List ℕ
timing_rx_wait_name = 116 ∷ 105 ∷ 109 ∷ 105 ∷ 110 ∷ 103 ∷ 45 ∷ 114 ∷ 120 ∷ 45 ∷ 119 ∷ 97 ∷ 105 ∷ 116 ∷ []

-- `timing-ack-wait`: macTsAckWait
abbrev pub timing_ack_wait_name : List ℕ
timing_ack_wait_name = 116 ∷ 105 ∷ 109 ∷ 105 ∷ 110 ∷ 103 ∷ 45 ∷ 97 ∷ 99 ∷ 107 ∷ 45 ∷ 119 ∷ 97 ∷ 105 ∷ 116 ∷ []

-- `timing-rx-tx`: macTsRxTx
abbrev pub timing_rx_tx_name : List ℕ
timing_rx_tx_name = 116 ∷ 105 ∷ 109 ∷ 105 ∷ 110 ∷ 103 ∷ 45 ∷ 114 ∷ 120 ∷ 45 ∷ 116 ∷ 120 ∷ []

-- `timing-max-ack`: macTsMaxAck
abbrev pub timing_max_ack_name : List ℕ
timing_max_ack_name = 116 ∷ 105 ∷ 109 ∷ 105 ∷ 110 ∷ 103 ∷ 45 ∷ 109 ∷ 97 ∷ 120 ∷ 45 ∷ 97 ∷ 99 ∷ 107 ∷ []

-- `timing-max-tx`: macTsMaxTx
abbrev pub timing_max_tx_name : List ℕ
timing_max_tx_name = 116 ∷ 105 ∷ 109 ∷ 105 ∷ 110 ∷ 103 ∷ 45 ∷ 109 ∷ 97 ∷ 120 ∷ 45 ∷ 116 ∷ 120 ∷ []

-- `timing-timeslot-length`: macTsTimeslotLength
abbrev pub timing_timeslot_length_name : List ℕ
timing_timeslot_length_name = 116 ∷ 105 ∷ 109 ∷ 105 ∷ 110 ∷ 103 ∷ 45 ∷ 116 ∷ 105 ∷ 109 ∷ 101 ∷ 115 ∷ 108 ∷ 111 ∷ 116 ∷ 45 ∷ 108 ∷ 101 ∷ 110 ∷ 103 ∷ 116 ∷ 104 ∷ []

-- `hopping-sequence-id`
abbrev pub hopping_name : List ℕ
hopping_name = 104 ∷ 111 ∷ 112 ∷ 112 ∷ 105 ∷ 110 ∷ 103 ∷ 45 ∷ 115 ∷ 101 ∷ 113 ∷ 117 ∷ 101 ∷ 110 ∷ 99 ∷ 101 ∷ 45 ∷ 105 ∷ 100 ∷ []

-- `slotframe-handle`
abbrev pub handle_name : List ℕ
handle_name = 115 ∷ 108 ∷ 111 ∷ 116 ∷ 102 ∷ 114 ∷ 97 ∷ 109 ∷ 101 ∷ 45 ∷ 104 ∷ 97 ∷ 110 ∷ 100 ∷ 108 ∷ 101 ∷ []

-- `slotframe-size`
abbrev pub size_name : List ℕ
size_name = 115 ∷ 108 ∷ 111 ∷ 116 ∷ 102 ∷ 114 ∷ 97 ∷ 109 ∷ 101 ∷ 45 ∷ 115 ∷ 105 ∷ 122 ∷ 101 ∷ []

-- `link-count`
abbrev pub count_name : List ℕ
count_name = 108 ∷ 105 ∷ 110 ∷ 107 ∷ 45 ∷ 99 ∷ 111 ∷ 117 ∷ 110 ∷ 116 ∷ []

-- `link-`
abbrev pub link_name : List ℕ
link_name = 108 ∷ 105 ∷ 110 ∷ 107 ∷ 45 ∷ []

-- `-timeslot`
abbrev pub link_timeslot_name : List ℕ
link_timeslot_name = 45 ∷ 116 ∷ 105 ∷ 109 ∷ 101 ∷ 115 ∷ 108 ∷ 111 ∷ 116 ∷ []

-- `-channel-offset`
abbrev pub link_offset_name : List ℕ
link_offset_name = 45 ∷ 99 ∷ 104 ∷ 97 ∷ 110 ∷ 110 ∷ 101 ∷ 108 ∷ 45 ∷ 111 ∷ 102 ∷ 102 ∷ 115 ∷ 101 ∷ 116 ∷ []

-- `-options`
abbrev pub link_options_name : List ℕ
link_options_name = 45 ∷ 111 ∷ 112 ∷ 116 ∷ 105 ∷ 111 ∷ 110 ∷ 115 ∷ []

-- `joining-r`
abbrev pub router_name : List ℕ
router_name = 106 ∷ 111 ∷ 105 ∷ 110 ∷ 105 ∷ 110 ∷ 103 ∷ 45 ∷ 114 ∷ []

-- `joining-p`
abbrev pub proxied_name : List ℕ
proxied_name = 106 ∷ 111 ∷ 105 ∷ 110 ∷ 105 ∷ 110 ∷ 103 ∷ 45 ∷ 112 ∷ []

-- `proxy-priority`
abbrev pub proxy_priority_name : List ℕ
proxy_priority_name = 112 ∷ 114 ∷ 111 ∷ 120 ∷ 121 ∷ 45 ∷ 112 ∷ 114 ∷ 105 ∷ 111 ∷ 114 ∷ 105 ∷ 116 ∷ 121 ∷ []

-- `rank-priority`
abbrev pub rank_priority_name : List ℕ
rank_priority_name = 114 ∷ 97 ∷ 110 ∷ 107 ∷ 45 ∷ 112 ∷ 114 ∷ 105 ∷ 111 ∷ 114 ∷ 105 ∷ 116 ∷ 121 ∷ []

-- `pan-priority`
abbrev pub pan_priority_name : List ℕ
pan_priority_name = 112 ∷ 97 ∷ 110 ∷ 45 ∷ 112 ∷ 114 ∷ 105 ∷ 111 ∷ 114 ∷ 105 ∷ 116 ∷ 121 ∷ []

-- `proxy-address`
abbrev pub proxy_address_name : List ℕ
proxy_address_name = 112 ∷ 114 ∷ 111 ∷ 120 ∷ 121 ∷ 45 ∷ 97 ∷ 100 ∷ 100 ∷ 114 ∷ 101 ∷ 115 ∷ 115 ∷ []

-- `network-id`
abbrev pub network_name : List ℕ
network_name = 110 ∷ 101 ∷ 116 ∷ 119 ∷ 111 ∷ 114 ∷ 107 ∷ 45 ∷ 105 ∷ 100 ∷ []

-- the name of a field of a link, with the link's place: `link-3-options`
unfoldable pub link_field_name : ℕ → List ℕ → List ℕ
link_field_name place name = link_name ++ (decimal place ++ name)
